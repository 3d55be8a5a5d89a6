-- What the judge answers of a table says the figures over the table's one answer.
use Rattle.std.specs.Prelude.{Option, Result}
use mathlib.Core.Path.{◌≡◌, refl, sym, ap, ap₂, ◌∙◌}
use mathlib.Core.List.{List, [], ◌∷◌, map}
use Prim.Native.Nat.{ℕ, max}
use native.Mathlib.Omega.{arith}
use native.Mathlib.Nat.{add-zero}
use Rattle.laws.specs.Witness.{Witness}
use Rattle.findings.specs.declared.Finding.{Finding}
use Rattle.findings.specs.declared.Found.{Found}
use Rattle.findings.specs.declared.Verdict.TheVariants.{Undefined, Inconsistent, Consistent}
use Rattle.findings.specs.Family.{all_in_order, found_of, there}
use Rattle.findings.specs.Meant.{Means, nothing, record_of, pair_of, cycle_of}
use Rattle.refusals.specs.declared.Refusal.{Refusal}
use Rattle.refusals.specs.declared.Told.{Told}
use Rattle.refusals.specs.Numbers.{told}
use Rattle.table.specs.Test.{TestAnswer}
use Rattle.table.proofs.WellFormed.{sound_count}
use Rattle.judge.specs.declared.Report.{Report}
use Rattle.judge.specs.Answer.{Witnesses, Roomy, Decides, wrong_length, no_room, bad_record, judged, JudgeAnswer}
use Rattle.tally.specs.Answer.{refused, reported, by_test, by_judging}
use Rattle.tally.specs.Figures.{one_if, numbers, has_witness, same_verdict, figures_of}
use Rattle.counting.specs.Parts.{of_refused, of_report, of_judged}
use Rattle.counting.specs.Counting.{FiguresOfOne}

there_is : {x : Found} {w : Option Witness} → Means x w → there x ≡ has_witness w
there_is nothing = refl
there_is record_of = refl
there_is pair_of = refl
there_is (cycle_of _) = refl

same_each : {A : Type 0} {p q : A → ℕ} → ((a : A) → p a ≡ q a) → (l : List A) → map p l ≡ map q l
same_each e [] = refl
same_each e (a ∷ l) = ap₂ ◌∷◌ (e a) (same_each e l)

-- none is larger than the one
back : (n : ℕ) → n ≡ max n 0
back n = omega arith

-- over one answer a count is one or none
refused_figures : (t : Told) → of_refused t.number ≡ figures_of (refused t ∷ [])
unfolding figures_of
refused_figures t = simp add-zero

module _ (w : Witnesses) (x : Report) (means : (f : Finding) → Means (found_of x.findings f) (w f)) where
  report_figures : of_report x ≡ figures_of (reported x.events (record { witness = w; verdict = x.verdict }) ∷ [])
  unfolding figures_of
  report_figures = λ i. record {
    tables = 1;
    refused = map (λ n. 0) numbers;
    found = same_each (λ (f : Finding). ap one_if (there_is (means f)) ∙ sym (add-zero _)) all_in_order i;
    consistent = sym (add-zero (one_if (same_verdict Consistent x.verdict))) i;
    inconsistent = sym (add-zero (one_if (same_verdict Inconsistent x.verdict))) i;
    undefined = sym (add-zero (one_if (same_verdict Undefined x.verdict))) i;
    largest = back x.events i;
  }

module _ {b before₁ before₂ : List ℕ} (room : Roomy before₁ before₂) where
  decided_figures : {j : Result Report Refusal} {w : Witnesses} → Decides b before₁ before₂ j w → FiguresOfOne b (of_judged j)
  decided_figures (wrong_length {r = r} n e) =
      record { answer = refused (told r); of = by_test {r = r} (TestAnswer.wrong_length n e); is = refused_figures (told r) }
  decided_figures (no_room _ n _) = absurd (n room)
  decided_figures (bad_record {r = r} ok _ t) =
      record { answer = refused (told r); of = by_test {r = r} (TestAnswer.records ok t); is = refused_figures (told r) }
  decided_figures (judged {n = n} {x = x} {w = w} ok _ t tells) = record {
    answer = reported n (record { witness = w; verdict = x.verdict });
    of = by_judging (TestAnswer.records ok t) tells.right;
    is = report_figures w x tells.means ∙ ap (λ (k : ℕ). figures_of (reported k (record { witness = w; verdict = x.verdict }) ∷ [])) (tells.events ∙ sound_count b n (TestAnswer.records ok t));
  }

  pub judged_figures : {after₁ after₂ : List ℕ} {j : Result Report Refusal} → JudgeAnswer b before₁ after₁ before₂ after₂ j → FiguresOfOne b (of_judged j)
  judged_figures answer = decided_figures answer.decided

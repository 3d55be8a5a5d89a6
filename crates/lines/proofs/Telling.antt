-- The text of what a judging answers is the text of its table, with the cycles in the two buffers.
use Rattle.std.specs.Prelude.{Result, Ok, Err}
use mathlib.Core.Path.{sym, ap₂, subst, ◌∙◌}
use mathlib.Core.List.{List}
use Prim.Native.Nat.{ℕ}
use Rattle.refusals.specs.declared.Refusal.{Refusal}
use Rattle.findings.specs.declared.Finding.TheVariants.{A1, A4}
use Rattle.findings.specs.Meant.{lent}
use Rattle.table.specs.Test.{TestAnswer, wrong_length, records}
use Rattle.table.proofs.WellFormed.{sound_count}
use Rattle.judge.specs.declared.Report.{Report}
use Rattle.judge.specs.Answer.{Witnesses, Roomy, Decides, JudgeAnswer}
use Rattle.lines.specs.Lines.{report_text}
use Rattle.lines.specs.Judged.{judged_text, JudgedWhole, no_cycles, all_cycles}
use Rattle.lines.specs.Answer.{TextOf}
use Rattle.lines.proofs.Reading.{witnesses_are, all_whole}

-- the answer j of the table b, where its cycles stand in these buffers
pub record JudgedThere (b : List ℕ) (j : Result Report Refusal) (first second : List ℕ) : Type 0 where
  pub text : TextOf b (judged_text j first second)
  pub whole : JudgedWhole j first second

refused_there : {b first second : List ℕ} {r : Refusal} → TestAnswer b (Err r) → JudgedThere b (Err r) first second
refused_there test = record { text = TextOf.refused test; whole = no_cycles }

decided_there :
    {b before₁ before₂ : List ℕ} {j : Result Report Refusal} {w : Witnesses} → Roomy before₁ before₂ → Decides b before₁ before₂ j w
    → JudgedThere b j (lent (w A1) before₁) (lent (w A4) before₂)
decided_there roomy (Decides.wrong_length bad e) = refused_there (wrong_length bad e)
decided_there roomy (Decides.no_room _ none_there _) = absurd (none_there roomy)
decided_there roomy (Decides.bad_record ok _ x) = refused_there (records ok x)
decided_there {b} {before₁} {before₂} roomy (Decides.judged {n = n} {x = x} ok _ passed tells) =
    let test : TestAnswer b (Ok n) = records ok passed in
    let are = witnesses_are before₁ before₂ tells.right tells.means in
    record {
      text =
          subst (TextOf b)
          (ap₂ (λ (k : ℕ) (v : Witnesses). report_text k v x.verdict) (sym (tells.events ∙ sound_count b n test)) (sym are))
          (TextOf.reported test tells.right);
      whole = all_cycles (all_whole before₁ before₂ tells.right tells.means);
    }

-- what a judging with room answers
pub judged_there :
    {b before₁ after₁ before₂ after₂ : List ℕ} {j : Result Report Refusal} → Roomy before₁ before₂ → JudgeAnswer b before₁ after₁ before₂ after₂ j
    → JudgedThere b j after₁ after₂
judged_there roomy a = rw (a.first, a.second) (decided_there roomy a.decided)

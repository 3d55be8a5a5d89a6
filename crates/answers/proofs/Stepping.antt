-- What a step leaves to whoever writes its answer: a text that fits, and the place of the next table.
use mathlib.Core.Path.{◌≡◌, subst}
use mathlib.Core.List.{List}
use Prim.Native.Nat.{ℕ, ◌<◌, ◌≤◌}
use native.Mathlib.Omega.{arith}
use lib.ListN.{length}
use Rattle.std.proofs.Common.{Result, Err}
use Rattle.refusals.specs.declared.Refusal.{Refusal}
use Rattle.refusals.specs.Numbers.{told}
use Rattle.batches.proofs.Standing.{inside, refusal_small}
use Rattle.judge.specs.declared.Report.{Report}
use Rattle.judge.specs.Answer.{Roomy}
use Rattle.phrases.specs.Phrases.{refused_text}
use Rattle.phrases.proofs.Lengths.{refused_short}
use Rattle.lines.specs.Room.{longest}
use Rattle.lines.specs.Judged.{judged_text, JudgedWhole}
use Rattle.lines.proofs.Telling.{judged_there}
use Rattle.lines.proofs.Answering.{text_short}
use Rattle.answers.specs.declared.Step.{Step}
use Rattle.answers.specs.declared.Step.TheVariants as step
use Rattle.answers.specs.Answer.{StepAnswer, answered, ended}

-- an answer that can be written, and a next place that is further on
pub record Writable (b : List ℕ) (place : ℕ) (j : Result Report Refusal) (next : ℕ) (first second : List ℕ) : Type 0 where
  pub short : length (judged_text j first second) ≤ longest
  pub whole : JudgedWhole j first second
  pub further : place < next
  pub within : next ≤ length b

module _ (b : List ℕ) (place : ℕ) {before₁ after₁ before₂ after₂ : List ℕ} {x : Step} (s : StepAnswer b place before₁ after₁ before₂ after₂ x) where
  pub can_be_written : {j : Result Report Refusal} {next : ℕ} → Roomy before₁ before₂ → x ≡ step.Answered j next → Writable b place j next after₁ after₂
  can_be_written {j} {next} roomy is = go (subst (StepAnswer b place before₁ after₁ before₂ after₂) is s)
    where
      go : StepAnswer b place before₁ after₁ before₂ after₂ (step.Answered j next) → Writable b place j next after₁ after₂
      go (answered stands right) =
          let i = inside place stands in
          let there = judged_there roomy right in
          record { short = text_short there.text; whole = there.whole; further = omega (arith, i.start, i.stop); within = i.within }

  pub line_short : {e : Result (Unit {0}) Refusal} {r : Refusal} → x ≡ step.Ended e → e ≡ Err r → length (refused_text (told r)) ≤ longest
  line_short {e} {r} is why = go (subst (StepAnswer b place before₁ after₁ before₂ after₂) is s)
    where
      go : StepAnswer b place before₁ after₁ before₂ after₂ (step.Ended e) → length (refused_text (told r)) ≤ longest
      go (ended stands _ _) =
          let small = refusal_small b place {x = told r} (rw why at stands) in
          omega (arith, refused_short (told r) (omega (arith, small.number)) (omega (arith, small.place)) small.byte)

-- A step has one result, and so has the run over a batch.
use mathlib.Core.Path.{◌≡◌, sym, ap, ap₂, subst, ◌∙◌}
use mathlib.Core.List.{List, ◌++◌}
use Prim.Native.Nat.{ℕ}
use native.Mathlib.Omega.{arith}
use lib.ListN.{length, drop}
use Rattle.std.proofs.Common.{Result, Ok, Err}
use Rattle.refusals.specs.declared.Refusal.{Refusal}
use Rattle.refusals.proofs.Known.{same_refusal}
use Rattle.batches.specs.Batch.{End, table, end, part, end_of}
use Rattle.batches.specs.Answers.{AnswersOf}
use Rattle.batches.proofs.Standing.{never_both}
use Rattle.batches.proofs.Unique.{ending_one}
use Rattle.batches.proofs.Answering.{SameAnswers, answers_one}
use Rattle.judge.specs.Answer.{JudgeAnswer}
use Rattle.judge.proofs.Unique.{judge_one}
use Rattle.lines.specs.Answer.{TextOf}
use Rattle.lines.proofs.Unique.{text_one}
use Rattle.answers.specs.declared.Step.{Step}
use Rattle.answers.specs.declared.Step.TheVariants as step
use Rattle.answers.specs.declared.Answers.{Answers}
use Rattle.answers.specs.Answer.{all_texts, StepAnswer, answered, ended, RunAnswer, no_room, written}

-- ---- a step

-- one result, and the same bytes in both buffers
pub record SameStep (x y : Step) (after₁ after₁' after₂ after₂' : List ℕ) : Type 0 where
  pub result : x ≡ y
  pub first : after₁ ≡ after₁'
  pub second : after₂ ≡ after₂'

pub step_one :
    (b : List ℕ) (place : ℕ) {before₁ after₁ after₁' before₂ after₂ after₂' : List ℕ} {x y : Step} → StepAnswer b place before₁ after₁ before₂ after₂ x
    → StepAnswer b place before₁ after₁' before₂ after₂' y → SameStep x y after₁ after₁' after₂ after₂'
step_one b place {before₁} {after₁} {after₁'} {before₂} {after₂} {after₂'} (answered {from = from} {to = to} {answer = j} p h) (answered {from = from'} {to = to'} {answer = k} q i) =
    let there : table from to ≡ table from' to' = sym p ∙ q in
    let start : from ≡ from' = cc in
    let stop : to ≡ to' = cc in
    let same = judge_one h (subst (λ (t : List ℕ). JudgeAnswer t before₁ after₁' before₂ after₂' k) (sym (ap₂ (part b) start stop)) i) in
    record { result = ap₂ step.Answered same.result stop; first = same.first; second = same.second }
step_one b place (answered p _) (ended q _ _) = never_both p q
step_one b place (ended p _ _) (answered q _) = never_both q p
step_one b place (ended {e = e} p f s) (ended {e = e'} q f' s') =
    let there : end (end_of e) ≡ end (end_of e') = sym p ∙ q in
    let ends : end_of e ≡ end_of e' = cc in
    record { result = ap step.Ended (ending_one e e' ends); first = f ∙ sym f'; second = s ∙ sym s' }

-- ---- the run

-- the same answer, and the same bytes
pub record SameRun (x y : Result Answers Refusal) (after after' : List ℕ) : Type 0 where
  pub result : x ≡ y
  pub bytes : after ≡ after'

module _ {b : List ℕ} where
  texts_one : {xs ys : List (List ℕ)} {e f : End} → AnswersOf TextOf b xs e → AnswersOf TextOf b ys f → SameAnswers xs ys e f
  texts_one p q = answers_one TextOf (λ t x y. text_one) p q

  pub run_one : {before after after' : List ℕ} {x y : Result Answers Refusal} → RunAnswer b before after x → RunAnswer b before after' y → SameRun x y after after'
  run_one (no_room _ _ r e) (no_room _ _ r' e') = record { result = ap Err (same_refusal r r'); bytes = e ∙ sym e' }
  run_one (no_room p h _ _) (written q _ len k _) = absurd (omega (arith, ap (λ (l : List (List ℕ)). length (all_texts l)) (texts_one p q).answers))
  run_one (written q _ len k _) (no_room p h _ _) = absurd (omega (arith, ap (λ (l : List (List ℕ)). length (all_texts l)) (texts_one p q).answers))
  run_one {before} (written {x = x} p count len k e) (written {x = y} q count' len' k' e') =
      let same = texts_one p q in
      let tables : x.tables ≡ y.tables = count ∙ ap length same.answers ∙ sym count' in
      let bytes : x.bytes ≡ y.bytes = len ∙ ap (λ (l : List (List ℕ)). length (all_texts l)) same.answers ∙ sym len' in
      let ending : x.ending ≡ y.ending = ending_one x.ending y.ending same.ending in
      record {
        result = λ i. Ok (record { tables = tables i; bytes = bytes i; ending = ending i });
        bytes = e ∙ ap₂ (λ (l : List (List ℕ)) (n : ℕ). all_texts l ++ drop n before) same.answers bytes ∙ sym e';
      }

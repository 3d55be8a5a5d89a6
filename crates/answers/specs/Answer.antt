-- The answers of a batch: of one table at a time, and all of them as text in one call.
use Rattle.std.specs.Prelude.{◌≡◌, List, ◌++◌, ℕ, ◌<◌, ◌≤◌, length, drop, Result, Ok, Err}
use Rattle.refusals.specs.declared.Refusal.{Refusal}
use Rattle.refusals.specs.Numbers.{at, told}
use Rattle.batches.specs.Batch.{End, table, end, stands_at, part, end_of}
use Rattle.batches.specs.Answers.{AnswersOf}
use Rattle.judge.specs.declared.Report.{Report}
use Rattle.judge.specs.Answer.{JudgeAnswer}
use Rattle.text.specs.Text.{each}
use Rattle.lines.specs.Answer.{TextOf}
use Rattle.answers.specs.declared.Step.{Step}
use Rattle.answers.specs.declared.Step.TheVariants as step
use Rattle.answers.specs.declared.Answers.{Answers}

-- ---- one table

-- The step at a place: the table that stands there gets the answer that it gets alone, and the next begins where it ends; or the batch has ended, and
-- "nothing else lent is changed then".
pub data StepAnswer (b : List ℕ) (place : ℕ) (before₁ after₁ before₂ after₂ : List ℕ) : Step → Type 0 where
  answered :
      {from to : ℕ} {answer : Result Report Refusal} → stands_at b place ≡ table from to → JudgeAnswer (part b from to) before₁ after₁ before₂ after₂ answer
      → StepAnswer b place before₁ after₁ before₂ after₂ (step.Answered answer to)
  ended :
      {e : Result (Unit {0}) Refusal} → stands_at b place ≡ end (end_of e) → after₁ ≡ before₁ → after₂ ≡ before₂
      → StepAnswer b place before₁ after₁ before₂ after₂ (step.Ended e)

-- ---- all of them

-- "for each table what the first writes", one after another
abbrev pub all_texts : List (List ℕ) → List ℕ
all_texts = each (λ (text : List ℕ). text)

-- The texts of the batch's answers stand in the output, with how many tables, how many bytes and how the batch ended; or it is too short for them: "11 last,
-- by what it would write; bytes past that stay. A refusal changes nothing lent."
pub data RunAnswer (b before after : List ℕ) : Result Answers Refusal → Type 0 where
  no_room :
      {texts : List (List ℕ)} {e : End} {r : Refusal} → AnswersOf TextOf b texts e → length before < length (all_texts texts) → told r ≡ at 11 0
      → after ≡ before → RunAnswer b before after (Err r)
  written :
      {texts : List (List ℕ)} {x : Answers} → AnswersOf TextOf b texts (end_of x.ending) → x.tables ≡ length texts → x.bytes ≡ length (all_texts texts)
      → x.bytes ≤ length before → after ≡ all_texts texts ++ drop x.bytes before → RunAnswer b before after (Ok x)

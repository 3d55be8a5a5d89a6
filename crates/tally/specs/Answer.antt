-- The answer that a table of a batch gets, as values: its refusal, or its report.
use Rattle.std.specs.Prelude.{List, ℕ, Err, Ok}
use Rattle.refusals.specs.declared.Refusal.{Refusal}
use Rattle.refusals.specs.declared.Told.{Told}
use Rattle.refusals.specs.Numbers.{told}
use Rattle.model.specs.Findings.{Report, Reports}
use Rattle.table.specs.Events.{events_of}
use Rattle.table.specs.Test.{TestAnswer}

-- what is told of a refusal; or how many records the table has, and its report
pub data Answer : Type 0 where
  refused : Told → Answer
  reported : ℕ → Report → Answer

-- the answer of the table b: "its answer, refusals included, is the one it gets alone"
pub data AnswerOf (b : List ℕ) : Answer → Type 0 where
  by_test : {r : Refusal} → TestAnswer b (Err r) → AnswerOf b (refused (told r))
  by_judging : {n : ℕ} {x : Report} → TestAnswer b (Ok n) → Reports (events_of b) x → AnswerOf b (reported n x)

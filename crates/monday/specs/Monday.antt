-- Monday's figures over a batch: "Each figure equals the count over the answers of W1".
use Rattle.std.specs.Prelude.{◌≡◌, List, ℕ}
use Rattle.batches.specs.Batch.{end_of}
use Rattle.batches.specs.Answers.{AnswersOf}
use Rattle.tally.specs.Answer.{Answer, AnswerOf}
use Rattle.tally.specs.Figures.{figures_of}
use Rattle.monday.specs.declared.Monday.{Monday}

-- "where W1 ends early with 14 or 15 the figures cover the tables before it and name that refusal": the answers are of the tables before the end, and
-- the end stands beside the figures
pub record MondayOf (b : List ℕ) (x : Monday) : Type 0 where
  pub answers : List Answer
  pub of : AnswersOf AnswerOf b answers (end_of x.ending)
  pub is : x.figures ≡ figures_of answers

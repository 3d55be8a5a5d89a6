-- The texts of a batch's answers in a buffer with room for them.
use Rattle.std.specs.Prelude.{◌≡◌, List, ℕ, ◌*◌, ◌≤◌, length, take}
use Rattle.batches.specs.Batch.{most, end_of}
use Rattle.batches.specs.Answers.{AnswersOf}
use Rattle.text.specs.Text.{Written}
use Rattle.lines.specs.Answer.{TextOf}
use Rattle.answers.specs.declared.Answers.{Answers}
use Rattle.answers.specs.Answer.{all_texts}

-- room for the texts of every batch: no text has more than six bytes for each byte of its table and its header
abbrev pub enough : ℕ
enough = 6 * most

-- the text of the table b was written from `at` on
pub record TextPut (b before : List ℕ) (at : ℕ) (after : List ℕ) (r : ℕ) : Type 0 where
  pub text : List ℕ
  pub is : TextOf b text
  pub written : Written before at text after r

-- the texts of all answers stand at the front of a buffer
pub record TextsAt (b out : List ℕ) (x : Answers) : Type 0 where
  pub texts : List (List ℕ)
  pub answers : AnswersOf TextOf b texts (end_of x.ending)
  pub tables : x.tables ≡ length texts
  pub front : take x.bytes out ≡ all_texts texts
  pub within : x.bytes ≤ length out

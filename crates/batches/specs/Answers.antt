-- The answers of a batch: one for each of its tables, in order.
use Rattle.std.specs.Prelude.{List, [], ◌∷◌, ℕ}
use Rattle.batches.specs.Batch.{End, Holds}

-- Of says what the answer of a table is
module _ {A : Type 0} (Of : List ℕ → A → Type 0) where
  -- an answer for each table, in order
  pub data Each : List (List ℕ) → List A → Type 0 where
    none_left : Each [] []
    and_then : {table : List ℕ} {answer : A} {tables : List (List ℕ)} {answers : List A} → Of table answer → Each tables answers → Each (table ∷ tables) (answer ∷ answers)

  -- the answers of the batch b are those of its tables, and it ends so
  pub record AnswersOf (b : List ℕ) (answers : List A) (e : End) : Type 0 where
    pub tables : List (List ℕ)
    pub holds : Holds b tables e
    pub each : Each tables answers

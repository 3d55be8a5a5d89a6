-- The edges: no byte, and one byte too many.
use mathlib.Core.Path.{refl}
use mathlib.Core.List.{List, []}
use Prim.Native.Nat.{ℕ, ◌<◌}
use lib.ListN.{length}
use Rattle.refusals.specs.Numbers.{at}
use Rattle.batches.specs.Batch.{most, cleanly, refused, stands_at, no_more}
use Rattle.batches.specs.Answers.{none_left, AnswersOf}
use Rattle.batches.proofs.Standing.{too_long, stands_is}

module _ {A : Type 0} (Of : List ℕ → A → Type 0) where
  -- "An empty batch has no answers."
  pub empty_batch : AnswersOf Of [] [] cleanly
  unfolding stands_at
  empty_batch = record { tables = []; holds = record { all = no_more refl }; each = none_left }

  -- "1 at 0, with no answers, for a batch above 60,000 bytes"
  pub long_batch : (b : List ℕ) → most < length b → AnswersOf Of b [] (refused (at 1 0))
  long_batch b h = record { tables = []; holds = record { all = no_more (stands_is {place = 0} (too_long h)) }; each = none_left }

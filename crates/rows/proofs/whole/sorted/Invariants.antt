-- `whole::sorted` meets its contract: the numbers below a are in their rows.
use mathlib.Core.Path.{◌≡◌}
use mathlib.Core.List.{List}
use Prim.Native.Nat.{ℕ, ◌<◌}
use lib.ListN.{get_or}
use Rattle.rows.specs.Rows.{Made}
use Rattle.rows.proofs.whole.sorted.Given as goal

-- the column says l for x, a number below a
pub record Sorted (column : List ℕ) (a x l : ℕ) : Type 0 where
  pub low : x < a
  pub is : get_or column x 0 ≡ l

abbrev pub invariant-loop-a : goal.invariant-loop-a
invariant-loop-a g l = Made g.row.W l.h (Sorted l.column l.a) l.fn.out l.out

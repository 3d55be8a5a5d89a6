-- `table::test_records` meets its contract: every record below n passes, in the table of the first `count` records.
use mathlib.Core.Path.{◌≡◌}
use Prim.Native.Nat.{ℕ, ◌*◌, ◌<◌, ◌≤◌}
use lib.ListN.{length, take}
use Rattle.table.specs.Siblings.{Kept}
use Rattle.table.specs.Test.{Passes}
use Rattle.table.proofs.test_records.Given as goal

abbrev pub invariant-loop-n : goal.invariant-loop-n
invariant-loop-n l = (((m : ℕ) → m < l.n → Passes (take (16 * l.count) l.table) m) × (l.n ≤ l.count)) × (Kept l.table l.n l.last l.older × ((length l.last ≡ 255) × (length l.older ≡ 255)))

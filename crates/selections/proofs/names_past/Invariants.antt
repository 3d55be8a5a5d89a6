-- `names_past` meets its contract: the numbers below n have been asked, and no other is named.
use mathlib.Core.Path.{◌≡◌}
use mathlib.Core.Bool.{◌&&◌}
use Prim.Native.Nat.{◌*◌, ◌-◌, ◌≤◌}
use lib.Dec.{leb}
use Rattle.laws.specs.Says.{any_below}
use Rattle.selections.specs.Selection.{selection_size, named}
use Rattle.selections.proofs.names_past.Given as goal

abbrev pub invariant-loop-n : goal.invariant-loop-n
invariant-loop-n l = (l.n ≤ 8 * selection_size) × (l.found ≡ any_below (λ i. leb l.from i && named l.selection i) l.n)

abbrev pub decreases-loop-n : goal.decreases-loop-n
decreases-loop-n l = 8 * selection_size - l.n

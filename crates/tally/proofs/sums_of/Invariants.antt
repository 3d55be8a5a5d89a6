-- `sums_of` meets its contract: in the loop the first i are added.
use mathlib.Core.Path.{◌≡◌}
use Rattle.tally.proofs.Adding.{add_to}
use Rattle.tally.proofs.sums_of.Given as goal

abbrev pub invariant-loop-i : goal.invariant-loop-i
invariant-loop-i g l = l.sums ≡ add_to l.i l.initial.sums l.n-items

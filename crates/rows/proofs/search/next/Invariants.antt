-- `search::next` meets its contract: the row has no number from lo on that is below at.
use Prim.Native.Nat.{◌-◌, ◌*◌}
use Rattle.rows.proofs.Along.{Gap}
use Rattle.rows.proofs.search.next.Given as goal

abbrev pub invariant-loop-at : goal.invariant-loop-at
invariant-loop-at g l = Gap g.row.W l.m l.b l.lo l.at

abbrev pub decreases-loop-at : goal.decreases-loop-at
decreases-loop-at g l = 64 * g.row.W - l.at

-- `twins::twin_among` meets its contract: what was found, and what the siblings from here on would tell, is the answer.
use Prim.Native.Nat.{◌+◌, ◌%◌}
use Rattle.table.proofs.Siblings.{Left}
use Rattle.table.proofs.twins.twin_among.Given as goal

abbrev pub invariant-loop-sibling : goal.invariant-loop-sibling
invariant-loop-sibling l = Left l.table l.older l.new l.n l.found l.sibling

abbrev pub decreases-loop-sibling : goal.decreases-loop-sibling
decreases-loop-sibling l = (l.sibling + 1) % 256

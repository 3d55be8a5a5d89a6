-- `put_texts` meets its contract: the loop passes the tables one after another, and the texts follow.
use lib.ListN.{length}
use Prim.Native.Nat.{◌-◌}
use Rattle.answers.proofs.Running.{Along}
use Rattle.answers.proofs.put_texts.Given as goal

abbrev pub invariant-loop-from : goal.invariant-loop-from
invariant-loop-from l = Along l.batch l.initial.out l.out l.at l.tables l.bytes

abbrev pub decreases-loop-from : goal.decreases-loop-from
decreases-loop-from l = length l.batch - l.at

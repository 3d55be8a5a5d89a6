-- `rising::rise_row` meets its contract: of what steps to b the highest is taken in, until nothing is left.
use Rattle.closure.proofs.Risen.{Turn, turns}
use Rattle.closure.proofs.rising.rise_row.Given as goal

abbrev pub invariant-loop-v : goal.invariant-loop-v
invariant-loop-v g l = Turn g.row.W l.n l.b l.m l.x l.initial.out l.initial.over l.initial.left l.out l.over l.left l.v

abbrev pub decreases-loop-v : goal.decreases-loop-v
decreases-loop-v g l = turns l.v l.b

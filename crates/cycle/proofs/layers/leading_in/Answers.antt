-- `layers::leading_in` meets its contract: the numbers of the row that were met are looked at.
use native.Mathlib.Omega.{arith}
use Rattle.rows.proofs.Walking.{turn, walk_on, walk_end}
use Rattle.cycle.proofs.Layering.{enters_next, enters_more, enters_all}
use Rattle.cycle.proofs.layers.leading_in.Goals as goal

pub loop-c-preserved : goal.loop-c-preserved
loop-c-preserved g c = let (walk, found) = c.loop-c.invariant in
    let met = c.in-Some.ensures.steps in
    let t = turn walk met in
    (walk_on walk met, rw t.past (enters_more t.low t.on c.row-in-loop-c.ensures c.or-found.ensures (enters_next t.gap found)))

pub returns : goal.returns
returns g c = let (walk, found) = c.loop-c.invariant in
    enters_all (omega arith) (enters_next (walk_end walk c.in-None.ensures.steps) found)

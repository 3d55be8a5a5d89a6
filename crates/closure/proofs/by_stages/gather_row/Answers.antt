-- `by_stages::gather_row` meets its contract: what x relates to the numbers of the row that were met is gathered.
use native.Mathlib.Omega.{arith}
use Rattle.rows.proofs.Rows.{made_row_is}
use Rattle.rows.proofs.Walking.{turn, walk_on, walk_end}
use Rattle.closure.proofs.Gathered.{gathered_next, gathered_more, gathered_all}
use Rattle.closure.proofs.by_stages.gather_row.Goals as goal

pub loop-v-preserved : goal.loop-v-preserved
loop-v-preserved g c = let (walk, all) = c.loop-v.invariant in
    let met = c.in-Some.ensures.steps in
    let t = turn walk met in
    (walk_on walk met, rw t.past (gathered_more t.low t.on (gathered_next t.gap all) c.row-in-loop-v.ensures c.or-all.ensures))

pub returns : goal.returns
returns g c = let (walk, all) = c.loop-v.invariant in
    made_row_is (gathered_all (omega arith) (gathered_next (walk_end walk c.in-None.ensures.steps) all)) c.put.ensures

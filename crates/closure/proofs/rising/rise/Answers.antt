-- `rising::rise` meets its contract: the first b rows are closed.
use Rattle.rows.proofs.Rows.{made_more, made_trans}
use Rattle.closure.proofs.Risen.{rooms_kept}
use Rattle.closure.proofs.rising.rise.Goals as goal

pub loop-b-preserved : goal.loop-b-preserved
loop-b-preserved g c = let (rooms, steps, led, empty) = c.loop-b.invariant in
    let (out, over, left) = c.rise_row.ensures in
    (rooms_kept rooms out.rest.size over.rest.size left.rest.size, made_more steps out, made_more led over, made_trans empty left)

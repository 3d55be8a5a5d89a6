-- `rising::rise_row` meets its contract: of what steps to b the highest is taken in, until nothing is left.
use Rattle.rows.proofs.Sets.{without_of}
use Rattle.rows.proofs.Rows.{made_row_is, made_row_trans, made_none, made_more}
use Rattle.closure.proofs.Risen.{turn_more, turn_less, out_done, over_done, left_done}
use Rattle.closure.proofs.rising.rise_row.Goals as goal

pub loop-v-preserved : goal.loop-v-preserved
loop-v-preserved g c = let (out, over) = c.take_in.ensures in
    let still = without_of c.row-in-loop-v.ensures c.row-in-loop-v-2.ensures c.without-rest.ensures in
    turn_more c.requires.0 c.loop-v-test.true c.loop-v.invariant out over (made_row_is still c.put-in-loop-v.ensures) c.last-v-in-loop-v.ensures

pub loop-v-smaller : goal.loop-v-smaller
loop-v-smaller g c = turn_less c.requires.0 c.loop-v-test.true c.loop-v.invariant c.take_in.ensures.0 (loop-v-preserved g c)

pub returns : goal.returns
returns g c = let high = c.loop-v-test.false in (
  made_row_trans c.put.ensures (out_done high c.loop-v.invariant),
  made_row_trans c.put-2.ensures (over_done high c.loop-v.invariant),
  made_more made_none (made_row_trans c.put-3.ensures (left_done high c.loop-v.invariant)),
)

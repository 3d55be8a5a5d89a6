-- `onward::along` meets its contract: the first b rows hold one or more steps.
use native.Mathlib.Omega.{arith}
use Rattle.rows.proofs.Rows.{made_none, made_more, made_whole}
use Rattle.spread.proofs.Stepping.{steps_row}
use Rattle.spread.proofs.onward.along.Goals as goal

pub loop-b-init : goal.loop-b-init
loop-b-init g c = made_none

pub loop-b-preserved : goal.loop-b-preserved
loop-b-preserved g c = let rows = c.loop-b.invariant in
    made_more rows (steps_row (λ v l. l.falls) (λ a l. l) (λ a l. l) rows.holds c.row_before-more.ensures c.put.ensures c.add_led.ensures)

pub returns : goal.returns
returns g c = made_whole (omega arith) c.loop-b.invariant

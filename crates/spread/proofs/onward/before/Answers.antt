-- `onward::before` meets its contract: the first b rows hold one or more steps.
use native.Mathlib.Omega.{arith}
use Rattle.rows.proofs.Rows.{made_none, made_more, made_whole}
use Rattle.rows.proofs.Steps.{either_rises}
use Rattle.spread.proofs.Stepping.{by_one_of, one_of, both_taken_in, steps_row}
use Rattle.spread.proofs.onward.before.Goals as goal

pub loop-b-init : goal.loop-b-init
loop-b-init g c = made_none

pub loop-b-preserved : goal.loop-b-preserved
loop-b-preserved g c = let rows = c.loop-b.invariant in
    let led = both_taken_in c.add_led.ensures c.add_led-in-loop-b.ensures in
    made_more rows (steps_row (λ v. either_rises) (λ a. by_one_of) (λ a. one_of) rows.holds c.from_either-earlier.ensures c.put.ensures led)

pub returns : goal.returns
returns g c = made_whole (omega arith) c.loop-b.invariant

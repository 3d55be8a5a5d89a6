-- `onward::onward` meets its contract: the first b rows hold what x relates and then steps lead on.
use native.Mathlib.Omega.{arith}
use Rattle.rows.proofs.Sets.{is_iff, either_of}
use Rattle.rows.proofs.Rows.{made_none, made_more, made_whole, made_row_is}
use Rattle.rows.proofs.Steps.{either_rises, then_held, then_plus, plus_then}
use Rattle.spread.proofs.onward.onward.Goals as goal

pub loop-b-init : goal.loop-b-init
loop-b-init g c = made_none

pub loop-b-preserved : goal.loop-b-preserved
loop-b-preserved g c = let rows = c.loop-b.invariant in
    let more = then_held (λ v. either_rises) rows.holds c.from_either-more.ensures in
    let row = is_iff (λ a. then_plus) (λ a. plus_then) (either_of c.from_either-one.ensures more c.or.ensures) in
    made_more rows (made_row_is row c.put.ensures)

pub returns : goal.returns
returns g c = made_whole (omega arith) c.loop-b.invariant

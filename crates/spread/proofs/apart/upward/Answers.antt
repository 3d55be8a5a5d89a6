-- `apart::upward` meets its contract: the first b rows hold what stands beside a number or one above it.
use native.Mathlib.Omega.{arith}
use Rattle.rows.proofs.Sets.{is_iff, either_of}
use Rattle.rows.proofs.Rows.{made_none, made_more, made_whole, made_row_is}
use Rattle.rows.proofs.Steps.{then_held, then_star, star_then}
use Rattle.spread.proofs.apart.upward.Goals as goal

pub loop-b-init : goal.loop-b-init
loop-b-init g c = made_none

pub loop-b-preserved : goal.loop-b-preserved
loop-b-preserved g c = let rows = c.loop-b.invariant in
    let above = then_held (λ v l. l.falls) rows.holds c.row_before-above.ensures in
    let row = is_iff (λ a. then_star) (λ a. star_then) (either_of c.beside-here.ensures above c.or.ensures) in
    made_more rows (made_row_is row c.put.ensures)

pub returns : goal.returns
returns g c = made_whole (omega arith) c.loop-b.invariant

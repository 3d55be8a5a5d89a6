-- `sequential::elsewhere` meets its contract: the first b rows are what is elsewhere.
use native.Mathlib.Omega.{arith}
use Rattle.rows.proofs.Sets.{is_iff, without_of}
use Rattle.rows.proofs.Rows.{made_none, made_more, made_whole, made_row_is}
use Rattle.combined.proofs.sequential.elsewhere.Goals as goal

pub loop-b-init : goal.loop-b-init
loop-b-init g c = made_none

pub loop-b-preserved : goal.loop-b-preserved
loop-b-preserved g c = let here = without_of c.row.ensures c.row-in-loop-b.ensures c.without.ensures in
    made_more c.loop-b.invariant
    (made_row_is (is_iff (λ a z. record { before = z.0; not_here = z.1 }) (λ a e. (e.before, e.not_here)) here) c.put.ensures)

pub returns : goal.returns
returns g c = made_whole (omega arith) c.loop-b.invariant

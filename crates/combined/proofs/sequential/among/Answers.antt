-- `sequential::among` meets its contract: the first b rows have the steps among SC records.
use native.Mathlib.Omega.{arith}
use Rattle.rows.proofs.Sets.{is_iff}
use Rattle.rows.proofs.Rows.{made_none, made_more, made_whole, made_row_is, made_row_iff}
use Rattle.combined.proofs.sequential.among.Goals as goal
use Rattle.combined.proofs.sequential.among.Goals.{then-order-b-eq4, else-order-b-eq4}

pub loop-b-init : goal.loop-b-init
loop-b-init g c = made_none

pub loop-b-preserved : goal.loop-b-preserved
loop-b-preserved g c = let rows = c.loop-b.invariant in
    elim c.if-order-b-eq4.branch [
      | then-order-b-eq4 y ↦
          rw y.out-is
          (made_more rows
          (made_row_iff (λ a z. record { sc_a = z.0; sc_b = y.if-order-b-eq4.true; by = z.1 }) (λ a s. (s.sc_a, s.by)) y.steps_to.ensures))
      | else-order-b-eq4 y ↦
          rw y.out-is
          (made_more rows
          (made_row_is (is_iff (λ a z. absurd z) (λ a s. y.if-order-b-eq4.false s.sc_b) y.nothing.ensures) y.put.ensures))
    ]

pub returns : goal.returns
returns g c = made_whole (omega arith) c.loop-b.invariant

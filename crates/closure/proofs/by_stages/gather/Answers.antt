-- `by_stages::gather` meets its contract: the first b rows are gathered, or emptied.
use Rattle.rows.proofs.Rows.{made_more, made_row_iff}
use Rattle.closure.proofs.by_stages.gather.Goals as goal
use Rattle.closure.proofs.by_stages.gather.Goals.{then-column-b, else-column-b}

pub loop-b-preserved : goal.loop-b-preserved
loop-b-preserved g c = let turn = c.loop-b in
    elim c.if-column-b.branch [
      | then-column-b w ↦ rw w.out-is (made_more turn.invariant (made_row_iff (λ a t. (w.if-column-b.true, t)) (λ a z. z.1) w.gather_row.ensures))
      | else-column-b w ↦
          rw w.out-is (made_more turn.invariant (made_row_iff (λ a i. absurd (w.nothing.ensures.only a i)) (λ a z. absurd (w.if-column-b.false z.0)) w.put.ensures))
    ]

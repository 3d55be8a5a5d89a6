-- `sequential::steps_to` meets its contract: the row is put twice, at first with what is over b alone.
use Rattle.rows.proofs.Sets.{is_iff}
use Rattle.rows.proofs.Rows.{made_row_is, made_row_trans}
use Rattle.combined.proofs.Ways.{stepping, stepped, known_others}
use Rattle.combined.proofs.sequential.steps_to.Goals as goal

pub returns : goal.returns
returns g c = let others = known_others c.row.ensures c.put_others.ensures in
    made_row_trans others
    (made_row_is
    (is_iff (λ a z. (z.1, stepping (others.only a) z.0)) (λ a z. (stepped (others.all a) z.1, z.0)) c.steps_from-steps.ensures)
    c.put.ensures)

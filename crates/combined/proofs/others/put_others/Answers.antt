-- `others::put_others` meets its contract: the set is put, and the row's number dropped.
use Rattle.rows.proofs.Rows.{made_row_iff, made_row_trans}
use Rattle.combined.proofs.others.put_others.Goals as goal

pub returns : goal.returns
returns g c = let whole = c.put.ensures in
    made_row_iff (λ a z. (whole.only a z.0, z.1)) (λ a z. (whole.all a z.0, z.1)) (made_row_trans whole c.drop.ensures)

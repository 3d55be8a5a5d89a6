-- `writes::take_others` meets its contract: the row and the set are joined, and put but for the row's number.
use mathlib.Core.Logic.{⊎_map}
use Rattle.rows.proofs.Rows.{made_row_iff}
use Rattle.combined.proofs.writes.take_others.Goals as goal

pub returns : goal.returns
returns g c = let was = c.row.ensures in
    let joined = c.or-joined.ensures in
    made_row_iff (λ a z. (⊎_map (was.only a) (λ i. i) (joined.only a z.0), z.1))
    (λ a z. (joined.all a (⊎_map (was.all a) (λ i. i) z.0), z.1)) c.put_others.ensures

-- `apart::beside` meets its contract: what stands under the arms of the branch, without what stands under b.
use Rattle.rows.proofs.Sets.{is_iff, without_of}
use Rattle.spread.proofs.apart.beside.Goals as goal

pub returns : goal.returns
returns g c = is_iff (λ a z. record { from = z.0.mid; is = z.0.next; among = z.0.first; not_under = z.1 })
    (λ a s. (record { mid = s.from; first = s.among; next = s.is }, s.not_under))
    (without_of c.row_before.ensures c.row.ensures c.without.ensures)

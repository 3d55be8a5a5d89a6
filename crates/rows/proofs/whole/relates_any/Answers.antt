-- `whole::relates_any` meets its contract: some row has a number exactly if all of them joined do.
use Rattle.laws.proofs.Says.{says_iff, says_not}
use Rattle.rows.proofs.Sets.{some_in}
use Rattle.rows.proofs.whole.relates_any.Goals as goal

pub returns : goal.returns
returns g c = let all = c.joined.ensures in
    says_iff (λ h. let (a, i) = some_in c.joined.result h in let (b, s) = all.only a i in (b, (a, (s.row, s.on))))
    (λ (b, (a, (l, o))) none. none a (all.all a (b, record { row = l; on = o })))
    (says_not c.is_empty.ensures)

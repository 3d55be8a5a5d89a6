-- `pair::find_racing_writes` meets its contract: the rows of writes are searched, where any race.
use Rattle.laws.proofs.Says.{denied}
use Rattle.columns.proofs.Shown.{w_told, told_w}
use Rattle.seeking.proofs.Pairing.{pair_found, no_pair_found, w_within}
use Rattle.seeking.proofs.pair.find_racing_writes.Goals as goal

pub returns-then-not-relates_any : goal.returns-then-not-relates_any
returns-then-not-relates_any g c = λ t k kinds race.
    let none-race = denied c.relates_any.ensures c.if-not-relates_any.true in
    no_pair_found (λ p q l s. none-race (q, (p, (l, race.all p q l (told_w k kinds l s).1)))) (w_within k)

pub returns : goal.returns
returns g c = λ t k kinds race.
    pair_found c.of_codes.ensures (λ p q l z. w_told k kinds l z.0 (race.only p q l z.1))
    (λ p q l s. let z = told_w k kinds l s in (z.0, race.all p q l z.1)) (w_within k) c.least_pair.ensures

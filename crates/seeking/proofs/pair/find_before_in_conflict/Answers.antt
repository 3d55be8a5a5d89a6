-- `pair::find_before_in_conflict` meets its contract: the rows are met, and searched.
use Rattle.seeking.proofs.Pairing.{pair_found, a2_within}
use Rattle.seeking.proofs.pair.find_before_in_conflict.Goals as goal

pub returns : goal.returns
returns g c = λ t k hb cf.
    pair_found c.meet.ensures (λ p q l z. record { conflict = cf.only p q l z.1; before = hb.only p q l z.0 })
    (λ p q l s. (hb.all p q l s.before, cf.all p q l s.conflict)) (a2_within k) c.least_pair.ensures

-- `pair::find_sources_in_conflict` meets its contract: the readers of what conflicts with each source are met with what is hb before its reader.
use Rattle.seeking.proofs.Pairing.{pair_found, a3_within}
use Rattle.seeking.proofs.Sources.{sources_told, told_sources}
use Rattle.seeking.proofs.pair.find_sources_in_conflict.Goals as goal

pub returns : goal.returns
returns g c = λ t k parents arms sources readers hb.
    let made = c.apart.ensures.2 in
    pair_found c.meet_led.ensures
    (λ p q l z. sources_told k parents arms sources readers made l (hb.only p q l z.0) z.1)
    (λ p q l s. (hb.all p q l s.before, told_sources k parents arms sources readers made l s)) (a3_within k) c.least_pair.ensures

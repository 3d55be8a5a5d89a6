-- `pair::find_token_taken_twice` meets its contract: those that took from one source are searched, where any two did.
use Rattle.laws.proofs.Says.{denied}
use Rattle.columns.proofs.Shown.{a5_told, told_a5}
use Rattle.seeking.proofs.Pairing.{pair_found, no_pair_found, a5_within, taken_by, two_twice}
use Rattle.seeking.proofs.pair.find_token_taken_twice.Goals as goal

pub returns-then-not-taken_twice : goal.returns-then-not-taken_twice
returns-then-not-taken_twice g c = λ t k kinds sources cf.
    let none-twice = denied c.taken_twice.ensures c.if-not-taken_twice.true in
    no_pair_found (λ p q l s. none-twice (two_twice l (told_a5 k sources l kinds s))) (a5_within k)

pub returns : goal.returns
returns g c = λ t k kinds sources cf.
    pair_found c.tokens.ensures.1 (λ p q l z. a5_told k sources l kinds (taken_by (cf.all p q l) z))
    (λ p q l s. taken_by (cf.only p q l) (told_a5 k sources l kinds s)) (a5_within k) c.least_pair.ensures

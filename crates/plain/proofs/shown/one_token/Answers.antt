-- `shown::one_token` meets its contract: the link of the earlier record's source tells it, then part by part.
use mathlib.Core.Path.{refl}
use Rattle.laws.proofs.Says.{says_is, says_lt, says_not, says_and}
use Rattle.links.proofs.Sourced.{the_source, says_by_source}
use Rattle.links.proofs.Showing.{says_A5}
use Rattle.plain.proofs.shown.one_token.Goals as goal

pub returns : goal.returns
returns c = says_A5
    (says_by_source (the_source _ (record { sound = c.requires.sound; all = refl }) c.source.ensures c.in-Some.is)
    (says_and
    (says_and
    (says_and (says_and (says_lt c.args.p c.args.q) (says_is c.updates.ensures)) (says_is c.updates-2.ensures))
    c.reads_from.ensures)
    (says_not c.conflict.ensures)))

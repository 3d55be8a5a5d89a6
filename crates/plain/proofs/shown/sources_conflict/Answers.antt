-- `shown::sources_conflict` meets its contract: a source is a record.
use mathlib.Core.Path.{refl}
use Rattle.links.proofs.Sourced.{source_low}
use Rattle.plain.proofs.shown.sources_conflict.Goals as goal

pub source_conflicts-requires : goal.source_conflicts-requires
source_conflicts-requires c = let q = c.requires in
    record { sound = q.sound; first = q.first; second = source_low _ (record { sound = q.sound; all = refl }) c.source.ensures c.in-Some.is }

-- `shown::source_conflicts` meets its contract: a source is a record.
use mathlib.Core.Path.{refl}
use Rattle.links.proofs.Sourced.{source_low}
use Rattle.plain.proofs.shown.source_conflicts.Goals as goal

pub conflict-requires : goal.conflict-requires
conflict-requires c = let q = c.requires in
    record { sound = q.sound; first = source_low _ (record { sound = q.sound; all = refl }) c.source.ensures c.in-Some.is; second = q.second }

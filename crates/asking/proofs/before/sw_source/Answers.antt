-- `before::sw_source` meets its contract: a read has one source, and the two orders decide.
use native.Mathlib.Omega.{arith}
use Rattle.links.proofs.Sources.{source_falls}
use Rattle.asking.proofs.before.sw_source.Goals as goal

pub releasing-requires : goal.releasing-requires
releasing-requires c = let q = c.requires in
    let falls = source_falls q.sound.formed c.source.ensures in
    record { sound = q.sound; inside = omega (arith, falls.below _ c.in-Some.is, q.inside) }

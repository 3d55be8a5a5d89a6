-- `conflict::apart_above` meets its contract: b climbs to its parent, whose number is smaller.
use native.Mathlib.Omega.{arith}
use Rattle.links.proofs.Linking.{parent_falls}
use Rattle.asking.proofs.Climbing.{climb_here, climb_ends, climb_on}
use Rattle.asking.proofs.conflict.+apart_above.Goals as goal

pub returns-then-apart : goal.returns-then-apart
returns-then-apart t c = let q = c.requires in climb_here q.sound.formed c.apart.ensures q.second c.if-apart.true

pub apart_above-requires : goal.apart_above-requires
apart_above-requires t c = let q = c.requires in
    let l = (parent_falls _ c.parent.ensures q.sound.formed).below _ c.in-Some.is in
    (omega arith, record { sound = q.sound; first = q.first; second = omega (arith, q.second) })

pub returns-in-None : goal.returns-in-None
returns-in-None t c = climb_ends c.requires.sound.formed c.apart.ensures c.if-apart.false c.parent.ensures c.in-None.is

pub returns-in-Some : goal.returns-in-Some
returns-in-Some t c =
    climb_on c.requires.sound.formed c.apart.ensures c.if-apart.false c.parent.ensures c.in-Some.is c.apart_above.ensures

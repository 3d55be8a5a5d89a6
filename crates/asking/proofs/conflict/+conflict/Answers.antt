-- `conflict::conflict` meets its contract: a climbs to its parent, whose number is smaller.
use native.Mathlib.Omega.{arith}
use Rattle.links.proofs.Linking.{parent_falls}
use Rattle.asking.proofs.Climbing.{climb_here, climb_ends, climb_on, says_conflict, conflict_says}
use Rattle.asking.proofs.conflict.+conflict.Goals as goal

pub returns-then-apart_above : goal.returns-then-apart_above
returns-then-apart_above t c = let q = c.requires in
    says_conflict (climb_here q.sound.formed c.apart_above.ensures q.first c.if-apart_above.true)

pub conflict-requires : goal.conflict-requires
conflict-requires t c = let q = c.requires in
    let l = (parent_falls _ c.parent.ensures q.sound.formed).below _ c.in-Some.is in
    (omega arith, record { sound = q.sound; first = omega (arith, q.first); second = q.second })

pub returns-in-None : goal.returns-in-None
returns-in-None t c =
    says_conflict (climb_ends c.requires.sound.formed c.apart_above.ensures c.if-apart_above.false c.parent.ensures c.in-None.is)

pub returns-in-Some : goal.returns-in-Some
returns-in-Some t c =
    says_conflict (climb_on c.requires.sound.formed c.apart_above.ensures c.if-apart_above.false c.parent.ensures c.in-Some.is (conflict_says c.conflict.ensures))

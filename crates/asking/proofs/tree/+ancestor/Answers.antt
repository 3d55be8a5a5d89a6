-- `tree::ancestor` meets its contract: it climbs to the parent, whose number is smaller.
use native.Mathlib.Omega.{arith}
use Rattle.laws.proofs.Says.{says_eq, says_iff}
use Rattle.table.specs.Events.{events_of}
use Rattle.links.proofs.Linking.{parent_falls}
use Rattle.links.proofs.Climbs.{climb_none, climb_found, climb_on}
use Rattle.asking.proofs.tree.+ancestor.Goals as goal

pub ancestor-requires : goal.ancestor-requires
ancestor-requires t c = let q = c.requires in
    let l = (parent_falls _ c.parent.ensures q.sound.formed).below _ c.in-Some.is in
    (omega arith, record { sound = q.sound; inside = omega (arith, q.inside) })

pub returns-in-None : goal.returns-in-None
returns-in-None t c = climb_none (events_of c.args.table.now) c.parent.ensures c.in-None.is

pub returns-then-p-a : goal.returns-then-p-a
returns-then-p-a t c = says_iff (λ _. (climb_found (events_of c.args.table.now) c.parent.ensures c.in-Some.is c.if-p-a.true).to tt) (λ _. c.if-p-a.true) (says_eq _ _)

pub returns-else-p-a : goal.returns-else-p-a
returns-else-p-a t c = climb_on (events_of c.args.table.now) c.parent.ensures c.in-Some.is c.if-p-a.false c.ancestor.ensures

-- `twins::twin_among` meets its contract: what was found, and what the siblings from here on would tell, is the answer.
use mathlib.Core.Path.{ap, ◌∙◌}
use Prim.Native.Nat.{ℕ}
use native.Mathlib.Omega.{arith}
use Rattle.table.specs.Events.{events_of}
use Rattle.table.specs.Siblings.{twinned_sibling}
use Rattle.table.proofs.Siblings.{family_next, left_all, left_none, left_next}
use Rattle.table.proofs.Standing.{stands_one}
use Rattle.table.proofs.twins.twin_among.Goals as goal

pub loop-sibling-init : goal.loop-sibling-init
loop-sibling-init c = left_all _ _ _ c.requires

pub is_sibling_twin-found-requires : goal.is_sibling_twin-found-requires
is_sibling_twin-found-requires c = stands_one c.loop-sibling.invariant.family.stand _ (omega (arith, (family_next _ _ _ c.loop-sibling.invariant.family c.loop-sibling-test.true).earlier, c.wide.ensures))

pub bounds-older-wide : goal.bounds-older-wide
bounds-older-wide c = omega (arith, (family_next _ _ _ c.loop-sibling.invariant.family c.loop-sibling-test.true).earlier, c.loop-sibling.invariant.family.reach, c.wide-in-loop-sibling.ensures)

pub loop-sibling-smaller : goal.loop-sibling-smaller
loop-sibling-smaller c = rw c.wide-in-loop-sibling.ensures (family_next _ _ _ c.loop-sibling.invariant.family c.loop-sibling-test.true).falls

pub loop-sibling-preserved : goal.loop-sibling-preserved
loop-sibling-preserved c = let a = c.args in
    rw c.wide-in-loop-sibling.ensures
    (left_next a.table.now a.older.now a.new c.loop-sibling.invariant c.loop-sibling-test.true
    (c.is_sibling_twin-found.ensures ∙ ap (λ (m : ℕ). twinned_sibling ((events_of a.table.now).at m) a.new) c.wide.ensures))

pub returns : goal.returns
returns c = let a = c.args in
    left_none a.table.now a.older.now a.new c.loop-sibling.invariant c.loop-sibling-test.false

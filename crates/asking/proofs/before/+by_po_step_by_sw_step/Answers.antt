-- `before::by_po_step` and `before::by_sw_step` meet their contracts: each asks both at the record that steps to b, whose number is smaller.
use native.Mathlib.Omega.{arith}
use Rattle.laws.proofs.Says.{said, denied}
use Rattle.links.proofs.Sources.{sw_falls}
use Rattle.model.proofs.Facts.{parent_earlier}
use Rattle.asking.proofs.Asked.{answered, next_asked}
use Rattle.asking.proofs.LastSteps.{last_here, last_on, last_above, says_hb}
use Rattle.asking.proofs.before.+by_po_step_by_sw_step.Goals as goal

pub by_po_step-returns-then-p-a : goal.by_po_step-returns-then-p-a
by_po_step-returns-then-p-a t c = last_here c.po_source.ensures c.in-Some.is c.requires.sound.formed c.if-p-a.true

pub by_po_step-by_po_step-requires : goal.by_po_step-by_po_step-requires
by_po_step-by_po_step-requires t c = let q = c.requires in
    let l = parent_earlier q.sound.formed _ _ (c.po_source.ensures.has _ c.in-Some.is) in
    (omega arith, record { sound = q.sound; inside = omega (arith, q.inside) })

pub by_po_step-returns-then-by_po_step : goal.by_po_step-returns-then-by_po_step
by_po_step-returns-then-by_po_step t c =
    last_on c.po_source.ensures c.in-Some.is c.if-p-a.false (says_hb (answered c.by_po_step.ensures c.if-by_po_step.true))

pub by_po_step-by_sw_step-requires : goal.by_po_step-by_sw_step-requires
by_po_step-by_sw_step-requires t c = let q = c.requires in
    let l = parent_earlier q.sound.formed _ _ (c.po_source.ensures.has _ c.in-Some.is) in
    (omega arith, record { at = record { sound = q.sound; inside = omega (arith, q.inside) }; not_by_po = denied c.by_po_step.ensures c.if-by_po_step.false })

pub by_po_step-returns-else-by_po_step : goal.by_po_step-returns-else-by_po_step
by_po_step-returns-else-by_po_step t c =
    last_on c.po_source.ensures c.in-Some.is c.if-p-a.false (says_hb (next_asked c.by_po_step.ensures c.if-by_po_step.false c.by_sw_step.ensures))

pub by_sw_step-returns-then-s-a : goal.by_sw_step-returns-then-s-a
by_sw_step-returns-then-s-a t c = last_here c.sw_source.ensures c.in-Some.is c.requires.at.sound.formed c.if-s-a.true

pub by_sw_step-returns-else-not-ancestor : goal.by_sw_step-returns-else-not-ancestor
by_sw_step-returns-else-not-ancestor t c =
    rw c.if-not-ancestor.false (last_above c.sw_source.ensures c.in-Some.is (said c.ancestor.ensures c.if-not-ancestor.false) c.if-s-a.false c.requires.not_by_po)

pub by_sw_step-by_po_step-requires : goal.by_sw_step-by_po_step-requires
by_sw_step-by_po_step-requires t c = let q = c.requires.at in
    let l = (sw_falls q.sound.formed c.sw_source.ensures).below _ c.in-Some.is in
    (omega arith, record { sound = q.sound; inside = omega (arith, q.inside) })

pub by_sw_step-returns-then-by_po_step : goal.by_sw_step-returns-then-by_po_step
by_sw_step-returns-then-by_po_step t c =
    last_on c.sw_source.ensures c.in-Some.is c.if-s-a.false (says_hb (answered c.by_po_step.ensures c.if-by_po_step.true))

pub by_sw_step-by_sw_step-requires : goal.by_sw_step-by_sw_step-requires
by_sw_step-by_sw_step-requires t c = let q = c.requires.at in
    let l = (sw_falls q.sound.formed c.sw_source.ensures).below _ c.in-Some.is in
    (omega arith, record { at = record { sound = q.sound; inside = omega (arith, q.inside) }; not_by_po = denied c.by_po_step.ensures c.if-by_po_step.false })

pub by_sw_step-returns-else-by_po_step : goal.by_sw_step-returns-else-by_po_step
by_sw_step-returns-else-by_po_step t c =
    last_on c.sw_source.ensures c.in-Some.is c.if-s-a.false (says_hb (next_asked c.by_po_step.ensures c.if-by_po_step.false c.by_sw_step.ensures))

-- `completeness::any_kept` meets its contract: no number of the row that was met is kept.
use Rattle.laws.proofs.Says.{said, denied, says_is, says_yes, says_no}
use Rattle.rows.proofs.Along.{along_next, along_more}
use Rattle.rows.proofs.Walking.{turn, walk_on, walk_end}
use Rattle.edit.proofs.completeness.any_kept.Goals as goal

pub returns-then-names : goal.returns-then-names
returns-then-names g c = let t = turn c.loop-a.invariant.0 c.in-Some.ensures.steps in
    says_yes (_, (t.low, (said (says_is c.names.ensures) c.if-names.true, t.on)))

pub loop-a-preserved : goal.loop-a-preserved
loop-a-preserved g c = let (walk, none) = c.loop-a.invariant in
    let met = c.in-Some.ensures.steps in
    let t = turn walk met in
    (walk_on walk met, rw t.past (along_more _ (along_next _ t.gap none) (λ o. denied (says_is c.names.ensures) c.if-names.false)))

pub returns : goal.returns
returns g c = let (walk, none) = c.loop-a.invariant in
    says_no (λ (a, (l, (k, o))). along_next _ (walk_end walk c.in-None.ensures.steps) none a l o k)

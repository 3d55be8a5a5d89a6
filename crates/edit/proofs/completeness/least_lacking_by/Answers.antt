-- `completeness::least_lacking_by` meets its contract: no record below b lacks anything.
use native.Mathlib.Omega.{arith}
use borrow.Author.Count.{below_more}
use Rattle.laws.specs.Least.{Least}
use Rattle.laws.proofs.Says.{said, denied}
use Rattle.laws.proofs.Passed.{number_found}
use Rattle.columns.proofs.Facts.{below}
use Rattle.edit.proofs.completeness.least_lacking_by.Goals as goal

pub returns-then-lacks : goal.returns-then-lacks
returns-then-lacks g c = λ t j. number_found (c.loop-b.invariant.1 t j) (said (c.lacks.ensures t j) c.if-lacks.true)

pub loop-b-preserved : goal.loop-b-preserved
loop-b-preserved g c = (
  omega arith,
  λ t j. below_more _ _ (c.loop-b.invariant.1 t j) (denied (c.lacks.ensures t j) c.if-lacks.false),
)

pub returns : goal.returns
returns g c = λ t j.
    Least.absent (λ i x. c.loop-b.invariant.1 t j i (let h = below j.reading.known x.inside in omega (arith, h, c.loop-b-test.false)) x)

pub loop-b-init : goal.loop-b-init
loop-b-init g c = (omega arith, λ t j i l. absurd (omega arith))

-- `arm_from` meets its contract.
use borrow.Author.Tests.{ne_eqb}
use Rattle.columns.proofs.arm_from.Goals as goal

pub returns-then-kind-eq-INIT : goal.returns-then-kind-eq-INIT
returns-then-kind-eq-INIT c = rw c.if-kind-eq-INIT.true

pub returns-else-kind-eq-INIT : goal.returns-else-kind-eq-INIT
returns-else-kind-eq-INIT c = rw (ne_eqb _ 0 c.if-kind-eq-INIT.false)

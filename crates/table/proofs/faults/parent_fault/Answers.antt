-- `faults::parent_fault` meets its contract: each way out rewrites by the tests that led there.
use borrow.Author.Tests.{eq-eqb, ne_eqb}
use Rattle.table.specs.Computed.{parent_fault}
use Rattle.table.proofs.faults.parent_fault.Goals as goal

pub returns-then-n-eq0 : goal.returns-then-n-eq0
unfolding parent_fault
returns-then-n-eq0 c = simp (eq-eqb _ _ c.if-n-eq0.true, c.is_root.ensures)

pub returns-in-None : goal.returns-in-None
unfolding parent_fault
returns-in-None c = simp (ne_eqb _ _ c.if-n-eq0.false, c.in-None.is)

pub returns-in-Some : goal.returns-in-Some
unfolding parent_fault
returns-in-Some c = simp (ne_eqb _ _ c.if-n-eq0.false, c.in-Some.is, c.is_misplaced.ensures, c.wide.ensures)

-- `writing::relinked` meets its contract: by the test that led there.
use borrow.Author.Tests.{eq-eqb, ne_eqb}
use Rattle.edit.proofs.writing.relinked.Goals as goal

pub bounds-numbers-link : goal.bounds-numbers-link
bounds-numbers-link c = c.requires.low c.if-link-eq-NONE.false

pub returns-then-link-eq-NONE : goal.returns-then-link-eq-NONE
returns-then-link-eq-NONE c = rw (eq-eqb _ _ c.if-link-eq-NONE.true)

pub returns-else-link-eq-NONE : goal.returns-else-link-eq-NONE
returns-else-link-eq-NONE c = rw (ne_eqb _ _ c.if-link-eq-NONE.false)

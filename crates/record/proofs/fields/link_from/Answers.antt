-- `fields::link_from` meets its contract: by the test that led there.
use borrow.Author.Tests.{eq-eqb, ne_eqb}
use Rattle.record.specs.Form.{link_from}
use Rattle.record.proofs.fields.link_from.Goals as goal

pub returns-then-byte-eq-NONE : goal.returns-then-byte-eq-NONE
unfolding link_from
returns-then-byte-eq-NONE c = rw (eq-eqb _ _ c.if-byte-eq-NONE.true)

pub returns-else-byte-eq-NONE : goal.returns-else-byte-eq-NONE
unfolding link_from
returns-else-byte-eq-NONE c = rw (ne_eqb _ _ c.if-byte-eq-NONE.false)

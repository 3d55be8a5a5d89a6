-- `fields::value_from` meets its contract: by the test that led there.
use Rattle.record.specs.Form.{value_from}
use Rattle.record.proofs.fields.value_from.Goals as goal

pub returns-then-u : goal.returns-then-u
unfolding value_from
returns-then-u c = rw c.if-u.true

pub returns-else-u : goal.returns-else-u
unfolding value_from
returns-else-u c = rw c.if-u.false

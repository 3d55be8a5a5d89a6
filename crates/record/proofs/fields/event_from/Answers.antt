-- `fields::event_from` meets its contract: each arm by the key that led there, the last by none of them.
use borrow.Author.Rules.{rules}
use Rattle.record.specs.Form.{event_from}
use Rattle.record.proofs.fields.event_from.Goals as goal

pub returns-in-1 : goal.returns-in-1
unfolding event_from
returns-in-1 c = rw c.in-1.is

pub returns-in-2 : goal.returns-in-2
unfolding event_from
returns-in-2 c = rw c.in-2.is

pub returns-in-3 : goal.returns-in-3
unfolding event_from
returns-in-3 c = rw c.in-3.is

pub returns-in_default : goal.returns-in_default
unfolding event_from
returns-in_default c = search rules

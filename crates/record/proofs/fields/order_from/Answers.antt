-- `fields::order_from` meets its contract: each arm by the key that led there, the last by none of them.
use borrow.Author.Rules.{rules}
use Rattle.record.specs.Form.{order_from}
use Rattle.record.proofs.fields.order_from.Goals as goal

pub returns-in-1 : goal.returns-in-1
unfolding order_from
returns-in-1 c = rw c.in-1.is

pub returns-in-2 : goal.returns-in-2
unfolding order_from
returns-in-2 c = rw c.in-2.is

pub returns-in-3 : goal.returns-in-3
unfolding order_from
returns-in-3 c = rw c.in-3.is

pub returns-in-4 : goal.returns-in-4
unfolding order_from
returns-in-4 c = rw c.in-4.is

pub returns-in_default : goal.returns-in_default
unfolding order_from
returns-in_default c = search rules

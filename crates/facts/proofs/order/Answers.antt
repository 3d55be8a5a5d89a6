-- `order` meets its contract: the code is that of the record's order.
use mathlib.Core.Path.{ap, ◌∙◌}
use Rattle.record.specs.Form.{order_from}
use Rattle.facts.proofs.Bytes.{order_told}
use Rattle.facts.proofs.order.Goals as goal

pub returns : goal.returns
returns c = c.order_from.ensures ∙ (ap order_from c.byte.ensures ∙ order_told c.requires)

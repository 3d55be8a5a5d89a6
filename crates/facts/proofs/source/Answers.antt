-- `source` meets its contract: the link is the record's.
use mathlib.Core.Path.{ap, ◌∙◌}
use Rattle.events.specs.declared.Record.{Record}
use Rattle.record.specs.Form.{link_from}
use Rattle.facts.proofs.Bytes.{field_told}
use Rattle.facts.proofs.source.Goals as goal

pub returns : goal.returns
returns c = c.link_from.ensures ∙ (ap link_from c.byte.ensures ∙ field_told c.requires (λ (r : Record). r.source))

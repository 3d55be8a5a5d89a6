-- `thread` meets its contract: the byte is the record's.
use mathlib.Core.Path.{◌∙◌}
use Rattle.events.specs.declared.Record.{Record}
use Rattle.facts.proofs.Bytes.{field_told}
use Rattle.facts.proofs.thread.Goals as goal

pub returns : goal.returns
returns c = c.byte.ensures ∙ field_told c.requires (λ (r : Record). r.thread)

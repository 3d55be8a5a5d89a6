-- `stored::record_at` meets its contract: by those of its two calls.
use mathlib.Core.Path.{ap, ◌∙◌}
use Rattle.table.specs.Events.{record_of, events_of}
use Rattle.table.proofs.stored.record_at.Goals as goal

pub returns : goal.returns
unfolding events_of
returns c = c.record_of.ensures ∙ ap record_of c.read_at.ensures

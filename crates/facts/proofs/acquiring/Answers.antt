-- `acquiring` meets its contract: what its order says.
use mathlib.Core.Path.{ap, ◌∙◌}
use Rattle.events.specs.Words.{acquires}
use Rattle.facts.proofs.acquiring.Goals as goal

pub returns : goal.returns
returns c = c.acquires.ensures ∙ ap acquires c.order.ensures

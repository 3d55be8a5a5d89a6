-- `releasing` meets its contract: what its order says.
use mathlib.Core.Path.{ap, ◌∙◌}
use Rattle.events.specs.Words.{releases}
use Rattle.facts.proofs.releasing.Goals as goal

pub returns : goal.returns
returns c = c.releases.ensures ∙ ap releases c.order.ensures

-- `layers::round` meets its contract: the records before y have been asked.
use Rattle.table.specs.Events.{events_of}
use Rattle.tracing.specs.Layers.{Round}
use Rattle.tracing.proofs.layers.round.Given as goal

abbrev pub invariant-loop-y : goal.invariant-loop-y
invariant-loop-y g l = Round (g.S.Steps.step (events_of l.table)) l.n l.k 0 l.y l.initial.dist l.dist

-- `layers::by_layers` meets its contract: layer k is complete.
use Rattle.table.specs.Events.{events_of}
use Rattle.tracing.specs.Layers.{Layer}
use Rattle.tracing.proofs.layers.by_layers.Given as goal

abbrev pub invariant-loop-k : goal.invariant-loop-k
invariant-loop-k g l = Layer (g.S.Steps.step (events_of l.table)) l.n l.s l.k 0 l.dist

-- `layers::spread` meets its contract: the first x entries are looked at.
use Rattle.tracing.specs.Layers.{Spread}
use Rattle.tracing.proofs.layers.spread.Given as goal

abbrev pub invariant-loop-x : goal.invariant-loop-x
invariant-loop-x l = Spread l.x l.k l.col l.initial.dist l.dist

-- `layers::leading_in` meets its contract: the numbers of the row that were met are looked at.
use Rattle.rows.specs.Sets.{Is}
use Rattle.rows.proofs.Walking.{Walks}
use Rattle.cycle.proofs.Layering.{EntersBelow}
use Rattle.cycle.proofs.layers.leading_in.Given as goal

abbrev pub invariant-loop-c : goal.invariant-loop-c
invariant-loop-c g l = Walks l.c-iterator l.layers l.e l.n × Is l.found (EntersBelow g.row.W l.n l.m l.layers l.e l.c-iterator.at)

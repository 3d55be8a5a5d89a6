-- `by_stages::close_through` meets its contract: the rows of the members that were met, if they have k, have taken in row k.
use Rattle.rows.specs.Rows.{Cell, Made}
use Rattle.rows.proofs.Walking.{Walks}
use Rattle.closure.proofs.Classed.{Passed}
use Rattle.closure.proofs.by_stages.close_through.Given as goal

abbrev pub invariant-loop-b : goal.invariant-loop-b
invariant-loop-b g l = Walks l.b-iterator l.members l.c l.n × Made g.row.W l.n (Passed l.k l.b-iterator.at (Cell g.row.W l.n l.fn.m)) l.fn.m l.m

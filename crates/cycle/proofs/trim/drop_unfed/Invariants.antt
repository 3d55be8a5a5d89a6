-- `trim::drop_unfed` meets its contract: of the numbers that were met, what nothing alive leads to is dropped, and what leads to the rest is taken in.
use Rattle.rows.proofs.Walking.{Walks}
use Rattle.cycle.specs.Trimmed.{Feeds}
use Rattle.cycle.proofs.trim.drop_unfed.Given as goal

abbrev pub invariant-loop-b : goal.invariant-loop-b
invariant-loop-b g l = Walks l.b-iterator l.fn.alive 0 l.n × Feeds g.row.W l.n l.m l.b-iterator.at l.alive l.sources

-- `greedy::least_start` meets its contract: `best` is the fewest of those that were met, `at` the first that has it, and `rest` has the numbers that were not met.
use Rattle.rows.proofs.Walking.{Walks}
use Rattle.cycle.specs.Rounds.{Rest}
use Rattle.cycle.proofs.Starts.{Sofar}
use Rattle.cycle.proofs.greedy.least_start.Given as goal

abbrev pub invariant-loop-s : goal.invariant-loop-s
invariant-loop-s g l = Walks l.s-iterator l.alive 0 l.n × Rest g.row.W l.alive l.rest l.s-iterator.at × Sofar g.row.W l.n l.m l.alive l.best l.at l.s-iterator.at

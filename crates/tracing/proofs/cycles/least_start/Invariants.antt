-- `cycles::least_start` meets its contract: `best` is the fewest of those below s, and `at` the first that has it.
use Rattle.table.specs.Events.{events_of}
use Rattle.tracing.proofs.Cycling.{Sofar}
use Rattle.tracing.proofs.cycles.least_start.Given as goal

abbrev pub invariant-loop-s : goal.invariant-loop-s
invariant-loop-s g l = Sofar (g.S.Steps.step (events_of l.table)) l.best l.at l.s

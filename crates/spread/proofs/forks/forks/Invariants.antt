-- `forks::forks` meets its contract: the column leads to no two of the numbers below b from one.
use Rattle.spread.proofs.Forking.{SeenBelow}
use Rattle.spread.proofs.forks.forks.Given as goal

abbrev pub invariant-loop-b : goal.invariant-loop-b
invariant-loop-b l = SeenBelow l.column l.b l.seen

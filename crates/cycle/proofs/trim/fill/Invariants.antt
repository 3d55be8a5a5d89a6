-- `trim::fill` meets its contract: the row has the numbers below a.
use Rattle.cycle.specs.Trimmed.{Filled}
use Rattle.cycle.proofs.trim.fill.Given as goal

abbrev pub invariant-loop-a : goal.invariant-loop-a
invariant-loop-a g l = Filled g.row.W l.a l.alive

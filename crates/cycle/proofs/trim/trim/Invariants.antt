-- `trim::trim` meets its contract: every pass keeps the cycles.
use Rattle.cycle.specs.Trimmed.{Keeps}
use Rattle.cycle.proofs.trim.trim.Given as goal

abbrev pub invariant-loop : goal.invariant-loop
invariant-loop g l = Keeps g.row.W l.n l.m l.alive

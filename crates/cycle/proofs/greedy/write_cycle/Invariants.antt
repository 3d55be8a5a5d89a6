-- `greedy::write_cycle` meets its contract: the first i numbers of the list are written, and what is least from the last makes the whole least.
use Rattle.cycle.specs.Rounds.{Step}
use Rattle.cycle.proofs.Starts.{Left}
use Rattle.cycle.proofs.Writing.{Writing}
use Rattle.cycle.proofs.greedy.write_cycle.Given as goal

abbrev pub invariant-loop-i : goal.invariant-loop-i
invariant-loop-i g l = Left (Step g.row.W l.n l.m l.alive) l.s l.len l.a l.i × Writing (Step g.row.W l.n l.m l.alive) l.s l.len l.initial.out l.out l.a l.i

-- `cycles::write_cycle` meets its contract: the first i records of the list are written, and what is least from the last makes the whole least.
use mathlib.Core.Path.{◌≡◌}
use Prim.Native.Nat.{◌+◌, ◌<◌}
use Rattle.cycle.proofs.Writing.{Writing}
use Rattle.table.specs.Events.{events_of}
use Rattle.tracing.specs.Layers.{entry}
use Rattle.tracing.proofs.cycles.write_cycle.Given as goal

abbrev pub invariant-loop-i : goal.invariant-loop-i
invariant-loop-i g l = (l.a < l.n) × (entry l.dist l.a + l.i ≡ l.len + 1) × Writing (g.S.Steps.step (events_of l.table)) l.s l.len l.initial.out l.out l.a l.i

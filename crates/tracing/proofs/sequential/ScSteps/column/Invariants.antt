-- The column of steps among SC records: the records before x are asked.
use mathlib.Core.Path.{◌≡◌}
use lib.ListN.{length}
use Rattle.limits.specs.Limit.{limit}
use Rattle.model.specs.Relations.{ScStep}
use Rattle.table.specs.Events.{events_of}
use Rattle.tracing.specs.Layers.{Column}
use Rattle.tracing.proofs.sequential.ScSteps.column.Given as goal

abbrev pub invariant-loop-x : goal.invariant-loop-x
invariant-loop-x l = (length l.col ≡ limit) × Column (ScStep (events_of l.table)) l.x l.y l.col

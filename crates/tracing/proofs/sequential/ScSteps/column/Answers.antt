-- The column's loop: one record more is asked.
use native.Mathlib.Omega.{arith}
use Rattle.model.specs.Relations.{ScStep}
use Rattle.table.specs.Events.{events_of}
use Rattle.facts.proofs.Records.{few}
use Rattle.tracing.proofs.Layering.{column_more}
use Rattle.tracing.proofs.sequential.ScSteps.column.Goals as goal

pub loop-x-preserved : goal.loop-x-preserved
loop-x-preserved c =
    column_more (ScStep (events_of c.args.table.now)) c.args.y c.loop-x.col (omega (arith, few c.requires.table)) c.sc_step.ensures c.loop-x.invariant

-- `read` meets its contract: of the first b records the columns say what the bytes do.
use Rattle.table.specs.Events.{events_of}
use Rattle.columns.proofs.Filling.{FilledTo}
use Rattle.columns.proofs.read.Given as goal

abbrev pub invariant-loop-b : goal.invariant-loop-b
invariant-loop-b l = FilledTo (events_of l.table) l.b l.parent l.arm l.source l.sync l.place l.kind l.order

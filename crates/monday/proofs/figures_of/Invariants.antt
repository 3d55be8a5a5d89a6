-- `figures_of` meets its contract: the tables on the way to the reader's place are counted.
use Rattle.std.proofs.Common.{◌-◌, length}
use Rattle.monday.proofs.Turn.{State}
use Rattle.monday.proofs.figures_of.Given as goal

abbrev pub invariant-loop-reader : goal.invariant-loop-reader
invariant-loop-reader l = State l.batch l.reader l.figures

abbrev pub decreases-loop-reader : goal.decreases-loop-reader
decreases-loop-reader l = length l.batch - l.reader.at

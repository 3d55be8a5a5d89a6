-- `before::before` meets its contract: the last step is one of the two.
use Rattle.asking.proofs.Asked.{answered, next_asked}
use Rattle.asking.proofs.LastSteps.{says_hb}
use Rattle.asking.proofs.before.before.Goals as goal

pub returns-then-by_po_step : goal.returns-then-by_po_step
returns-then-by_po_step c = says_hb (answered c.by_po_step.ensures c.if-by_po_step.true)

pub returns-else-by_po_step : goal.returns-else-by_po_step
returns-else-by_po_step c = says_hb (next_asked c.by_po_step.ensures c.if-by_po_step.false c.by_sw_step.ensures)

-- "always at a smaller record number": the measure of `before::by_po_step` and `before::by_sw_step` is the later one, b.
use Rattle.asking.proofs.before.+by_po_step_by_sw_step.Given as goal

abbrev pub decreases-by_po_step : goal.decreases-by_po_step
decreases-by_po_step l = l.b

abbrev pub decreases-by_sw_step : goal.decreases-by_sw_step
decreases-by_sw_step l = l.b

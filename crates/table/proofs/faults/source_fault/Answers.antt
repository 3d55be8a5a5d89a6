-- `faults::source_fault` meets its contract: each way out rewrites by the arms that led there.
use mathlib.Core.Path.{sym, ◌∙◌}
use Rattle.table.specs.Computed.{source_fault}
use Rattle.table.proofs.faults.source_fault.Goals as goal

pub returns-in-None-default : goal.returns-in-None-default
unfolding source_fault
returns-in-None-default c = rw (sym c.read_by.ensures ∙ c.in-None-default.is-0)

pub returns-in-Some-None : goal.returns-in-Some-None
unfolding source_fault
returns-in-Some-None c = simp (sym c.read_by.ensures ∙ c.in-Some-None.is-0, c.in-Some-None.is-1, c.is_u.ensures)

pub returns-in-Some-Some : goal.returns-in-Some-Some
unfolding source_fault
returns-in-Some-Some c = simp (
  sym c.read_by.ensures ∙ c.in-Some-Some.is-0,
  c.in-Some-Some.is-1,
  c.is_unfit.ensures,
  c.wide.ensures,
)

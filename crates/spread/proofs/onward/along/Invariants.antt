-- `onward::along` meets its contract: the first b rows hold one or more steps.
use Rattle.laws.specs.Steps.{Plus}
use Rattle.rows.specs.Rows.{Made}
use Rattle.rows.specs.Steps.{Leads}
use Rattle.spread.proofs.onward.along.Given as goal

abbrev pub invariant-loop-b : goal.invariant-loop-b
invariant-loop-b g l = Made g.row.W l.b (Plus (Leads l.column)) l.fn.out l.out

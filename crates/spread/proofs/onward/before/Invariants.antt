-- `onward::before` meets its contract: the first b rows hold one or more steps.
use Rattle.laws.specs.Steps.{Plus}
use Rattle.rows.specs.Rows.{Made}
use Rattle.rows.specs.Steps.{ByEither}
use Rattle.spread.proofs.onward.before.Given as goal

abbrev pub invariant-loop-b : goal.invariant-loop-b
invariant-loop-b g l = Made g.row.W l.b (Plus (ByEither l.first l.second)) l.fn.out l.out

-- `onward::onward` meets its contract: the first b rows hold what x relates and then steps lead on.
use Rattle.laws.specs.Steps.{Plus}
use Rattle.rows.specs.Rows.{On, Made}
use Rattle.rows.specs.Steps.{ByEither, Then}
use Rattle.spread.proofs.onward.onward.Given as goal

abbrev pub invariant-loop-b : goal.invariant-loop-b
invariant-loop-b g l = Made g.row.W l.b (Then (On g.row.W l.x) (Plus (ByEither l.first l.second))) l.fn.out l.out

-- `sequential::elsewhere` meets its contract: the first b rows are what is elsewhere.
use Rattle.rows.specs.Rows.{On, Made}
use Rattle.combined.specs.Sequential.{Elsewhere}
use Rattle.combined.proofs.sequential.elsewhere.Given as goal

abbrev pub invariant-loop-b : goal.invariant-loop-b
invariant-loop-b g l = Made g.row.W l.b (Elsewhere l.place (On g.row.W l.po) (On g.row.W l.at)) l.fn.out l.out

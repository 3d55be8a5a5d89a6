-- `sequential::detours` meets its contract: the first b rows are turned.
use Rattle.rows.specs.Rows.{On, Made}
use Rattle.combined.specs.Sequential.{Turned}
use Rattle.combined.proofs.sequential.detours.Given as goal

abbrev pub invariant-loop-b : goal.invariant-loop-b
invariant-loop-b g l = Made g.row.W l.b (Turned l.parent l.place (On g.row.W l.elsewhere) (On g.row.W l.around)) l.fn.out l.out

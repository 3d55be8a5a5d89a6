-- `by_stages::gather` meets its contract: the first b rows are gathered, or emptied.
use mathlib.Core.Path.{◌≡◌}
use lib.ListN.{get_or}
use Rattle.rows.specs.Rows.{On, Cell, Made}
use Rattle.rows.specs.Steps.{Then}
use Rattle.closure.proofs.by_stages.gather.Given as goal

abbrev pub invariant-loop-b : goal.invariant-loop-b
invariant-loop-b g l = Made g.row.W l.b (λ a c. (get_or l.column c 0 ≡ l.code) × Then (Cell g.row.W l.n l.x) (On g.row.W l.m) a c) l.fn.out l.out

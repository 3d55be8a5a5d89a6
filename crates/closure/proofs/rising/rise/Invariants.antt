-- `rising::rise` meets its contract: the first b rows are closed.
use Rattle.laws.specs.Steps.{Plus}
use Rattle.rows.specs.Rows.{On, Cell, Made}
use Rattle.rows.specs.Steps.{Then}
use Rattle.closure.specs.Classes.{Rising}
use Rattle.closure.proofs.rising.rise.Given as goal

abbrev pub invariant-loop-b : goal.invariant-loop-b
invariant-loop-b g l = Rising g.row.W l.n l.m l.x l.out l.over l.left × Made g.row.W l.b (Plus (Cell g.row.W l.n l.m)) l.fn.out l.out
    × Made g.row.W l.b (Then (On g.row.W l.x) (Plus (Cell g.row.W l.n l.m))) l.fn.over l.over × Made g.row.W 1 (λ _ _. ⊥) l.fn.left l.left

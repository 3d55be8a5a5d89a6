-- `asked::meet` meets its contract: the first q rows are those of both.
use Rattle.rows.specs.Rows.{On, Made}
use Rattle.pairs.proofs.asked.meet.Given as goal

abbrev pub invariant-loop-q : goal.invariant-loop-q
invariant-loop-q g l = Made g.row.W l.q (λ p b. On g.row.W l.x p b × On g.row.W l.y p b) l.fn.out l.out

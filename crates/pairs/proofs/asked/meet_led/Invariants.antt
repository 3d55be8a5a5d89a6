-- `asked::meet_led` meets its contract: the first q rows are what x relates, and y to where the column leads from.
use Rattle.rows.specs.Rows.{On, Made}
use Rattle.rows.specs.Steps.{Leads, Then}
use Rattle.pairs.proofs.asked.meet_led.Given as goal

abbrev pub invariant-loop-q : goal.invariant-loop-q
invariant-loop-q g l = Made g.row.W l.q (λ p b. On g.row.W l.x p b × Then (On g.row.W l.y) (Leads l.column) p b) l.fn.out l.out

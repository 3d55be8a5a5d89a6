-- `asked::of_codes` meets its contract: of the first q rows those with the code are copied.
use Prim.Native.Nat.{◌≤◌}
use lib.ListN.{get_or}
use Rattle.rows.specs.Rows.{On, Made}
use Rattle.pairs.proofs.asked.of_codes.Given as goal

abbrev pub invariant-loop-q : goal.invariant-loop-q
invariant-loop-q g l = Made g.row.W l.q (λ p b. (l.least ≤ get_or l.column b 0) × On g.row.W l.x p b) l.fn.out l.out

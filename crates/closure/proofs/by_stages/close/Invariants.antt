-- `by_stages::close` meets its contract: after k turns the matrix holds stage k, still within classes.
use Rattle.laws.proofs.Closure.{Stage}
use Rattle.rows.specs.Rows.{Cell, Made}
use Rattle.closure.specs.Classes.{InClasses}
use Rattle.closure.proofs.by_stages.close.Given as goal

abbrev pub invariant-loop-k : goal.invariant-loop-k
invariant-loop-k g l = InClasses g.row.W l.n l.h l.class l.members l.m × Made g.row.W l.n (Stage l.k (Cell g.row.W l.n l.fn.m)) l.fn.m l.m

-- `apart::upward` meets its contract: the first b rows hold what stands beside a number or one above it.
use Rattle.rows.specs.Rows.{On, Made}
use Rattle.rows.specs.Steps.{Leads, Star, Then}
use Rattle.spread.specs.Apart.{BesideBy}
use Rattle.spread.proofs.apart.upward.Given as goal

abbrev pub invariant-loop-b : goal.invariant-loop-b
invariant-loop-b g l = Made g.row.W l.b (Then (BesideBy l.arm (On g.row.W l.below) (On g.row.W l.arms)) (Star (Leads l.parent))) l.fn.out l.out

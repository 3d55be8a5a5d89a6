-- `apart::downward` meets its contract: the numbers from b on have handed up what stands under them.
use Rattle.rows.specs.Rows.{On, Made}
use Rattle.spread.specs.Handed.{UnderFrom, ArmsFrom}
use Rattle.spread.proofs.apart.downward.Given as goal

abbrev pub invariant-loop-b : goal.invariant-loop-b
invariant-loop-b g l = record {
  under : Made g.row.W l.n (UnderFrom l.n l.parent l.b (On g.row.W l.x)) l.fn.below l.below;
  under_arms : Made g.row.W l.n (ArmsFrom l.n l.parent l.b l.arm (On g.row.W l.x)) l.fn.arms l.arms;
}

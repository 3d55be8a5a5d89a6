-- `writes::handed_on` meets its contract: the first b rows of owners are made, and what the numbers below b have to hand on is handed on.
use Rattle.rows.specs.Rows.{On, Made}
use Rattle.rows.specs.Steps.{ByEither, Star, Then}
use Rattle.combined.specs.Writes.{Owning, HandedOn}
use Rattle.combined.proofs.writes.handed_on.Given as goal

abbrev pub invariant-loop-b : goal.invariant-loop-b
invariant-loop-b g l = record {
  owned : Made g.row.W l.b (Then (Owning l.kind l.source) (Star (ByEither l.parent l.sync))) l.fn.owners l.owners;
  handed : Made g.row.W l.n (HandedOn l.b l.parent l.sync l.kind l.source l.place (On g.row.W l.at)) l.fn.out l.out;
}

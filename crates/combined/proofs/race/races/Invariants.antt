-- `race::races` meets its contract: the first b rows have the races, and what is noted is noted of the numbers below b.
use Rattle.rows.specs.Rows.{On, Made}
use Rattle.combined.specs.Columns.{WritesAt, OfOrder}
use Rattle.combined.specs.Races.{RacesBefore}
use Rattle.combined.proofs.race.races.Given as goal

abbrev pub invariant-loop-b : goal.invariant-loop-b
invariant-loop-b g l = record {
  writes : Made g.row.W 33 (WritesAt l.b l.kind l.place) l.fn.at l.at;
  nas : Made g.row.W 1 (OfOrder l.b l.order) l.fn.na l.na;
  rows : Made g.row.W l.b (RacesBefore l.place l.kind l.order (On g.row.W l.hb) (On g.row.W l.cf)) l.fn.out l.out;
}

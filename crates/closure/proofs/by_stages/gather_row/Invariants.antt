-- `by_stages::gather_row` meets its contract: what x relates to the numbers of the row that were met is gathered.
use Rattle.rows.specs.Sets.{Is}
use Rattle.rows.proofs.Walking.{Walks}
use Rattle.closure.proofs.Gathered.{Gathered}
use Rattle.closure.proofs.by_stages.gather_row.Given as goal

abbrev pub invariant-loop-v : goal.invariant-loop-v
invariant-loop-v g l = Walks l.v-iterator l.m l.b l.n × Is l.all (Gathered g.row.W l.n l.x l.m l.b l.v-iterator.at)

-- `writes::find_write_cycle` meets its contract: the cycles of wb0 are those of the rows.
use Rattle.seeking.proofs.Cycles.{cycle_found, wb0_within}
use Rattle.seeking.proofs.writes.find_write_cycle.Goals as goal

pub returns : goal.returns
returns g c = λ t k held. cycle_found (wb0_within k) held c.least_cycle.ensures

-- `sequential::steps_from` meets its contract: its sets are put together as it says.
use Rattle.rows.proofs.Sets.{either_of, both_of}
use Rattle.combined.proofs.sequential.steps_from.Goals as goal

pub returns : goal.returns
returns g c = let by_writes = either_of c.row.ensures c.row-2.ensures c.or-by_writes.ensures in
    let at_one_place = both_of c.row-3.ensures c.row-4.ensures c.and-at_one_place.ensures in
    let steps = either_of by_writes (either_of c.row-5.ensures at_one_place c.or.ensures) c.or-steps.ensures in
    both_of steps c.row-6.ensures c.and.ensures

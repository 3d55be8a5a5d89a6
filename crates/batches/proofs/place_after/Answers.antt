-- `place_after` meets its contract, by the cases of what stands at the place.
use Rattle.batches.proofs.Unique.{table_stands, end_stands}
use Rattle.batches.proofs.place_after.Goals as goal

pub returns-in-Table : goal.returns-in-Table
returns-in-Table c = rw (table_stands c.item_at.ensures c.in-Table.is)

pub returns-in-Ended : goal.returns-in-Ended
returns-in-Ended c = rw (end_stands c.item_at.ensures c.in-Ended.is)

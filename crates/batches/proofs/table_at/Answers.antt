-- `table_at` meets its contract: the bytes of a table are within the batch (`inside`), so that the part can be taken.
use native.Mathlib.Omega.{arith}
use Rattle.batches.proofs.Standing.{inside}
use Rattle.batches.proofs.Unique.{table_stands, end_stands}
use Rattle.batches.proofs.table_at.Goals as goal

pub slice_bounds-result-count : goal.slice_bounds-result-count
slice_bounds-result-count c = let i = inside _ (table_stands c.item_at.ensures c.in-Table.is) in
    omega arith

pub slice_bounds-result-start : goal.slice_bounds-result-start
slice_bounds-result-start c = let i = inside _ (table_stands c.item_at.ensures c.in-Table.is) in
    omega arith

pub slice_bounds-result-end : goal.slice_bounds-result-end
slice_bounds-result-end c = let i = inside _ (table_stands c.item_at.ensures c.in-Table.is) in
    omega arith

pub returns-in-Table : goal.returns-in-Table
returns-in-Table c = rw (table_stands c.item_at.ensures c.in-Table.is)

pub returns-in-Ended : goal.returns-in-Ended
returns-in-Ended c = rw (end_stands c.item_at.ensures c.in-Ended.is)

-- `judge_at` meets its contract: the judge gets the table's part of the batch.
use mathlib.Core.Path.{refl}
use native.Mathlib.Omega.{arith}
use Rattle.batches.proofs.Standing.{inside}
use Rattle.batches.proofs.Unique.{table_stands, end_stands}
use Rattle.answers.specs.Answer.{answered, ended}
use Rattle.answers.proofs.judge_at.Goals as goal

pub slice_bounds-judge-count : goal.slice_bounds-judge-count
slice_bounds-judge-count c = let i = inside _ (table_stands c.item_at.ensures c.in-Table.is) in
    omega (arith, i.start, i.stop, i.within)

pub slice_bounds-judge-start : goal.slice_bounds-judge-start
slice_bounds-judge-start c = let i = inside _ (table_stands c.item_at.ensures c.in-Table.is) in
    omega (arith, i.start, i.stop, i.within)

pub slice_bounds-judge-end : goal.slice_bounds-judge-end
slice_bounds-judge-end c = let i = inside _ (table_stands c.item_at.ensures c.in-Table.is) in
    omega (arith, i.start, i.stop, i.within)

pub returns-in-Table : goal.returns-in-Table
returns-in-Table c = answered (table_stands c.item_at.ensures c.in-Table.is) c.judge.ensures

pub returns-in-Ended : goal.returns-in-Ended
returns-in-Ended c = ended (end_stands c.item_at.ensures c.in-Ended.is) refl refl

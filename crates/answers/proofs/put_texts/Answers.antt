-- `put_texts` meets its contract: the loop passes the tables one after another, and the texts follow.
use native.Mathlib.Omega.{arith}
use Rattle.batches.proofs.Standing.{inside}
use Rattle.batches.proofs.Unique.{table_stands, end_stands}
use Rattle.answers.proofs.Running.{along_none, out_long, room_for_one, along_one, along_all}
use Rattle.answers.proofs.put_texts.Goals as goal

pub loop-from-init : goal.loop-from-init
loop-from-init c = along_none _ _

pub slice_bounds-put_text-count : goal.slice_bounds-put_text-count
slice_bounds-put_text-count c = let i = inside _ (table_stands c.item_at.ensures c.in-Table.is) in
    omega (arith, i.start, i.stop, i.within)

pub slice_bounds-put_text-start : goal.slice_bounds-put_text-start
slice_bounds-put_text-start c = let i = inside _ (table_stands c.item_at.ensures c.in-Table.is) in
    omega (arith, i.start, i.stop, i.within)

pub slice_bounds-put_text-end : goal.slice_bounds-put_text-end
slice_bounds-put_text-end c = let i = inside _ (table_stands c.item_at.ensures c.in-Table.is) in
    omega (arith, i.start, i.stop, i.within)

pub put_text-bytes-requires : goal.put_text-bytes-requires
put_text-bytes-requires c = room_for_one c.args.batch.now c.args.out.now c.requires c.loop-from.invariant _ _ (table_stands c.item_at.ensures c.in-Table.is)

pub overflow_add-tables : goal.overflow_add-tables
overflow_add-tables c = omega (arith, c.loop-from.invariant.few, c.loop-from.invariant.little)

pub loop-from-smaller : goal.loop-from-smaller
loop-from-smaller c = let i = inside _ (table_stands c.item_at.ensures c.in-Table.is) in
    omega (arith, i.start, i.stop, i.within)

pub loop-from-preserved : goal.loop-from-preserved
loop-from-preserved c = along_one c.args.batch.now c.args.out.now c.requires c.loop-from.invariant _ _ (table_stands c.item_at.ensures c.in-Table.is) c.put_text-bytes.ensures

pub shape_of-out-in-Ended : goal.shape_of-out-in-Ended
shape_of-out-in-Ended c = out_long c.args.batch.now c.args.out.now c.requires c.loop-from.invariant

pub returns-in-Ended : goal.returns-in-Ended
returns-in-Ended c = along_all c.args.batch.now c.args.out.now c.requires c.loop-from.invariant (end_stands c.item_at.ensures c.in-Ended.is)

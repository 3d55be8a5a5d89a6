-- `trim::drop_unfed` meets its contract: of the numbers that were met, what nothing alive leads to is dropped, and what leads to the rest is taken in.
use Rattle.laws.proofs.Says.{said}
use Rattle.rows.proofs.Sets.{both_of}
use Rattle.rows.proofs.Walking.{turn, walk_on, walk_end}
use Rattle.cycle.proofs.Trimming.{feeds_drop, feeds_take, feeds_next}
use Rattle.cycle.proofs.trim.drop_unfed.Goals as goal

pub loop-b-preserved-then-is_empty : goal.loop-b-preserved-then-is_empty
loop-b-preserved-then-is_empty g c = let (walk, feeds) = c.loop-b.invariant in
    let met = c.in-Some.ensures.steps in
    let t = turn walk met in
    let fed = both_of c.row-in-loop-b.ensures c.row-in-loop-b-2.ensures c.and.ensures in (
      walk_on walk met,
      rw t.past (feeds_drop (λ a z. said c.is_empty.ensures c.if-is_empty.true a (fed.all a z)) c.drop.ensures (feeds_next c.requires.keeps t.gap feeds)),
    )

pub loop-b-preserved : goal.loop-b-preserved
loop-b-preserved g c = let (walk, feeds) = c.loop-b.invariant in
    let met = c.in-Some.ensures.steps in
    let t = turn walk met in
    (walk_on walk met, rw t.past (feeds_take c.row-in-loop-b.ensures c.or-sources.ensures (feeds_next c.requires.keeps t.gap feeds)))

pub returns : goal.returns
returns g c = let (walk, feeds) = c.loop-b.invariant in feeds_next c.requires.keeps (walk_end walk c.in-None.ensures.steps) feeds

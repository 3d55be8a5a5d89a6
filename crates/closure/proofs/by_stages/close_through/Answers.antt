-- `by_stages::close_through` meets its contract: the rows of the members that were met, if they have k, have taken in row k.
use Rattle.laws.proofs.Says.{said, denied}
use Rattle.rows.proofs.Sets.{either_of}
use Rattle.rows.proofs.Rows.{made_row_is}
use Rattle.rows.proofs.Walking.{turn, walk_on, walk_end}
use Rattle.closure.proofs.Classed.{passed_joined, passed_kept, passed_next, passed_all}
use Rattle.closure.proofs.by_stages.close_through.Goals as goal

pub loop-b-preserved-then-has : goal.loop-b-preserved-then-has
loop-b-preserved-then-has g c = let (walk, made) = c.loop-b.invariant in
    let met = c.in-Some.ensures.steps in
    let t = turn walk met in
    let joined = either_of c.row-then-has.ensures c.row.ensures c.or-joined.ensures in (
      walk_on walk met,
      rw t.past
          (passed_joined c.requires.1 t.low (passed_next c.requires.1 t.gap made) c.requires.0 (said c.has.ensures c.if-has.true) (made_row_is joined c.put.ensures)),
    )

pub loop-b-preserved : goal.loop-b-preserved
loop-b-preserved g c = let (walk, made) = c.loop-b.invariant in
    let met = c.in-Some.ensures.steps in
    let t = turn walk met in
    (walk_on walk met, rw t.past (passed_kept c.requires.1 t.low (passed_next c.requires.1 t.gap made) (denied c.has.ensures c.if-has.false)))

pub returns : goal.returns
returns g c = let (walk, made) = c.loop-b.invariant in
    passed_all (passed_next c.requires.1 (walk_end walk c.in-None.ensures.steps) made)

-- `greedy::least_start` meets its contract: `best` is the fewest of those that were met, `at` the first that has it, and `rest` has the numbers that were not met.
use native.Mathlib.Omega.{arith}
use Rattle.rows.proofs.Walking.{turn, walk_on, walk_end}
use Rattle.cycle.proofs.Starts.{start_take, start_keep, start_end, sofar_next, rest_next, rest_less}
use Rattle.cycle.proofs.greedy.least_start.Goals as goal
use Rattle.cycle.proofs.greedy.least_start.Goals.{then-len-best, else-len-best}

pub loop-s-preserved : goal.loop-s-preserved
loop-s-preserved g c = let (walk, rest, sofar) = c.loop-s.invariant in
    let met = c.in-Some.ensures.steps in
    let t = turn walk met in
    let left = rest_next t.gap rest in
    let before = sofar_next t.gap sofar in
    let back = c.steps_back-len.ensures in (
      walk_on walk met,
      rw t.past (rest_less c.drop.ensures left),
      rw t.past
          (elim c.if-len-best.branch [
            | then-len-best w ↦ rw (w.best-is, w.at-is) (start_take left back w.if-len-best.true t.low before)
            | else-len-best w ↦ rw (w.best-is, w.at-is) (start_keep left back w.if-len-best.false before)
          ]),
    )

pub returns : goal.returns
returns g c = let (walk, rest, sofar) = c.loop-s.invariant in
    start_end c.requires.0.low (omega arith) (sofar_next (walk_end walk c.in-None.ensures.steps) sofar)

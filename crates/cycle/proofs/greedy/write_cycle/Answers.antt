-- `greedy::write_cycle` meets its contract: the first i numbers of the list are written, and what is least from the last makes the whole least.
use mathlib.Core.Path.{◌≡◌}
use Prim.Native.Nat.{ℕ, ◌<◌}
use native.Mathlib.Omega.{arith}
use lib.ListN.{length-set}
use Rattle.std.proofs.Common.{rules}
use Rattle.cycle.proofs.Layering.{reach_alive}
use Rattle.cycle.proofs.Starts.{back_short, back_some, left_all, left_one, next_step, next_left, next_least}
use Rattle.cycle.proofs.Writing.{writing_first, writing_on, writing_close}
use Rattle.cycle.proofs.greedy.write_cycle.Goals as goal

pub loop-i-init : goal.loop-i-init
loop-i-init g c = let q = c.requires in
    let low : c.args.s < c.args.n = q.has.has.low _ q.has.start in
    (left_all c.steps_back-len.ensures q.back, writing_first c.args.out.now (omega arith))

pub next_of-a-requires : goal.next_of-a-requires
next_of-a-requires g c = let q = c.requires.has.has in
    let short = back_short c.steps_back-len.ensures c.requires.back in
    let here = (reach_alive c.loop-i.invariant.0.fewest.reach).col in
    (search rules, record { matrix = q.matrix; row = omega arith; col = omega arith })

pub bounds-out-i : goal.bounds-out-i
bounds-out-i g c = let short = back_short c.steps_back-len.ensures c.requires.back in omega (arith, length-set {A = ℕ})

pub loop-i-preserved : goal.loop-i-preserved
loop-i-preserved g c = let b = c.steps_back-len.ensures in
    let u = c.requires.back in
    let (left, writing) = c.loop-i.invariant in
    let more = c.loop-i-test.true in
    let f = c.next_of-a.ensures in
    let short = back_short b u in
    (next_left b u more left f, writing_on (omega (arith, length-set {A = ℕ})) (next_step b u more left f) (next_least b u more left f) writing)

pub returns : goal.returns
returns g c = let b = c.steps_back-len.ensures in
    let some = back_some b c.requires.back in
    let e : c.loop-i.i ≡ c.steps_back-len.result = omega arith in
    record { wrote = writing_close some (left_one (rw e at c.loop-i.invariant.0)) (rw e at c.loop-i.invariant.1); few = b.few }

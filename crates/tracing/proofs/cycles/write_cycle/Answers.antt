-- `cycles::write_cycle` meets its contract: the first i records of the list are written, and what is least from the last makes the whole least.
use mathlib.Core.Path.{◌≡◌}
use native.Mathlib.Omega.{arith}
use lib.ListN.{length-set}
use Rattle.cycle.proofs.Writing.{writing_first}
use Rattle.tracing.proofs.Cycling.{next_there, writing_more, writing_end}
use Rattle.tracing.proofs.cycles.write_cycle.Goals as goal

pub loop-i-init : goal.loop-i-init
loop-i-init g c = let q = c.requires in
    (q.start, omega (arith, q.is), writing_first c.args.out.now (omega (arith, q.some, q.room)))

pub unwrap-a-requires : goal.unwrap-a-requires
unwrap-a-requires g c = let q = c.requires in
    let i = c.loop-i.invariant in
    next_there (g.met.S.Steps.among _ _ q.table) q.steps i.0 q.small i.1 _ c.loop-i-test.true (omega arith) c.next_of.ensures

pub loop-i-preserved : goal.loop-i-preserved
loop-i-preserved g c = let q = c.requires in
    let i = c.loop-i.invariant in
    let f = rw c.unwrap-a.ensures at c.next_of.ensures in (
      f.inside,
      omega (arith, f.is),
      writing_more (g.met.S.Steps.among _ _ q.table) q.steps i.0 q.small i.1 c.loop-i-test.true (omega arith)
          (omega (arith, length-set c.args.out.now 0 c.args.s, q.room)) f i.2,
    )

pub returns : goal.returns
returns g c = let q = c.requires in
    let i = c.loop-i.invariant in
    let e : c.loop-i.i ≡ c.args.len = omega (arith, q.some) in
    writing_end (g.met.S.Steps.among _ _ q.table) q.steps i.0 q.some (omega (arith, i.1)) (rw e at i.2)

-- `by_stages::close` meets its contract: after k turns the matrix holds stage k, still within classes.
use mathlib.Core.Path.{◌≡◌}
use native.Mathlib.Omega.{arith}
use Rattle.closure.proofs.Classed.{classes_kept, stage_none, stage_more, stage_all}
use Rattle.closure.proofs.by_stages.close.Goals as goal

pub loop-k-init : goal.loop-k-init
loop-k-init g c = (c.requires, stage_none _ _ _)

pub loop-k-preserved : goal.loop-k-preserved
loop-k-preserved g c = let (classes, stage) = c.loop-k.invariant in
    let through = c.close_stage.ensures in
    (classes_kept classes through, stage_more c.loop-k-test.true stage through)

pub returns : goal.returns
returns g c = let e : c.loop-k.k ≡ c.args.n = omega arith in
    stage_all c.requires (rw e at c.loop-k.invariant.1)

-- `layers::round` meets its contract: a column is spread where y is in layer k.
use Rattle.tracing.proofs.Layering.{layer_asked, layer_passed}
use Rattle.tracing.proofs.layers.round.Goals as goal
use Rattle.tracing.proofs.layers.round.Goals.{then-dist-y, else-dist-y}

pub loop-y-preserved : goal.loop-y-preserved
loop-y-preserved g c s a = let (table, small) = c.requires in
    let on = g.met.S.Steps.among _ _ table in
    let before = c.loop-y.invariant s a in
    elim c.if-dist-y.branch [
      | then-dist-y w ↦ rw w.dist-is (layer_asked on small c.loop-y-test.true w.if-dist-y.true w.column.ensures w.spread.ensures before)
      | else-dist-y w ↦ rw w.dist-is (layer_passed on w.if-dist-y.false before)
    ]

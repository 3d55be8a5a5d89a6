-- `layers::by_layers` meets its contract: layer k is complete.
use mathlib.Core.Path.{◌≡◌}
use native.Mathlib.Omega.{arith}
use Rattle.tracing.proofs.Layering.{layer_first, layer_done, layers_done}
use Rattle.tracing.proofs.layers.by_layers.Goals as goal

pub loop-k-init : goal.loop-k-init
loop-k-init g c = layer_first (g.met.S.Steps.among _ _ c.requires.0.table) c.requires.1 c.column.ensures c.spread.ensures

pub loop-k-preserved : goal.loop-k-preserved
loop-k-preserved g c =
    layer_done (g.met.S.Steps.among _ _ c.requires.0.table) (omega arith) (omega arith) (c.round.ensures _ c.loop-k.invariant)

pub returns : goal.returns
returns g c = let e : c.loop-k.k ≡ 254 = omega arith in
    layers_done (g.met.S.Steps.among _ _ c.requires.0.table) (rw e at c.loop-k.invariant)

-- `layers::next_layer` meets its contract: what has a step to the last layer, is alive and was not met.
use Rattle.rows.proofs.Sets.{both_of, without_of}
use Rattle.cycle.proofs.Layering.{layers_more}
use Rattle.cycle.proofs.layers.next_layer.Goals as goal

pub returns : goal.returns
returns g c = let q = c.requires in
    layers_more (without_of (both_of c.leading_in.ensures c.row.ensures c.and-before.ensures) q.seen c.without.ensures) c.put.ensures q.made

-- `layers::steps_to` meets its contract: the row has no entries at first.
use native.Mathlib.Omega.{arith}
use Rattle.std.proofs.lemmas.List.{get_or-replicate}
use Rattle.facts.proofs.Records.{few}
use Rattle.tracing.proofs.layers.steps_to.Goals as goal

pub by_layers-requires : goal.by_layers-requires
by_layers-requires g c = (c.requires, λ x l. get_or-replicate 200 x 255 0 (omega (arith, few c.requires.table)))

-- `updates` meets its contract: the kind tells it.
use Rattle.facts.proofs.Bytes.{updates_told}
use Rattle.facts.proofs.updates.Goals as goal

pub returns : goal.returns
returns c = updates_told c.requires c.byte.ensures

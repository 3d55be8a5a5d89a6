-- `writes` meets its contract: the kind tells it.
use Rattle.facts.proofs.Bytes.{writes_told}
use Rattle.facts.proofs.writes.Goals as goal

pub returns : goal.returns
returns c = writes_told c.requires c.byte-kind.ensures

-- `reads` meets its contract: the kind tells it.
use Rattle.facts.proofs.Bytes.{reads_told}
use Rattle.facts.proofs.reads.Goals as goal

pub returns : goal.returns
returns c = reads_told c.requires c.byte-kind.ensures

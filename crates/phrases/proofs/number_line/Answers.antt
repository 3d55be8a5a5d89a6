-- `number_line` meets its contract: the name, the number, the line end.
use Rattle.phrases.proofs.Pieces.{written_three}
use Rattle.phrases.proofs.number_line.Goals as goal

pub returns-clause-written : goal.returns-clause-written
returns-clause-written c = written_three c.requires c.put.ensures.written c.put_spaced.ensures.written c.put-2.ensures.written

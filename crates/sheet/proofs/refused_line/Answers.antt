-- `refused_line` meets its contract: the word, the number and the count, the line end.
use Rattle.phrases.proofs.Pieces.{written_three}
use Rattle.sheet.proofs.refused_line.Goals as goal

pub returns-clause-written : goal.returns-clause-written
returns-clause-written c = written_three c.requires c.put.ensures.written c.put_two.ensures.written c.put-2.ensures.written

-- `put_verdicts` meets its contract: three lines.
use Rattle.phrases.proofs.Pieces.{written_three}
use Rattle.sheet.proofs.put_verdicts.Goals as goal

pub returns-clause-written : goal.returns-clause-written
returns-clause-written c = written_three c.requires c.number_line.ensures.written c.number_line-2.ensures.written c.number_line-3.ensures.written

-- `family::finding_line` meets its contract: the name, the witness, the line end.
use Rattle.text.proofs.Laws.{written_text}
use Rattle.phrases.proofs.Pieces.{written_three}
use Rattle.lines.proofs.family.finding_line.Goals as goal

pub returns-clause-written : goal.returns-clause-written
returns-clause-written c = written_three c.requires.0 (written_text c.name.ensures c.put.ensures.written) c.put_witness.ensures.written c.put-2.ensures.written

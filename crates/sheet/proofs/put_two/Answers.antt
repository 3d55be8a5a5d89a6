-- `put_two` meets its contract: one number, and the other after it.
use Rattle.text.proofs.Laws.{written_then}
use Rattle.sheet.proofs.put_two.Goals as goal

pub returns-clause-written : goal.returns-clause-written
returns-clause-written c = written_then c.requires c.put_spaced.ensures.written c.put_spaced-2.ensures.written

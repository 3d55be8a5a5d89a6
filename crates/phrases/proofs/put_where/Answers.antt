-- `put_where` meets its contract: the place, and the byte after it.
use Rattle.text.proofs.Laws.{written_then}
use Rattle.phrases.proofs.put_where.Goals as goal

pub returns-clause-written : goal.returns-clause-written
returns-clause-written c = written_then c.requires c.put_spaced.ensures.written c.put_named.ensures.written

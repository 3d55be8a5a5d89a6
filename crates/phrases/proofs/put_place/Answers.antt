-- `put_place` meets its contract: the number, `at`, where.
use Rattle.phrases.proofs.Pieces.{written_three}
use Rattle.phrases.proofs.put_place.Goals as goal

pub returns-clause-written : goal.returns-clause-written
returns-clause-written c = written_three c.requires c.put_spaced.ensures.written c.put.ensures.written c.put_where.ensures.written

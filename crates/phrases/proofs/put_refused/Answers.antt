-- `put_refused` meets its contract: `refused`, what is told, the line end.
use Rattle.phrases.specs.Phrases.{refused_text}
use Rattle.phrases.proofs.Pieces.{written_three}
use Rattle.phrases.proofs.put_refused.Goals as goal

pub returns-clause-written : goal.returns-clause-written
unfolding refused_text
returns-clause-written c = written_three c.requires c.put.ensures.written c.put_place.ensures.written c.put-2.ensures.written

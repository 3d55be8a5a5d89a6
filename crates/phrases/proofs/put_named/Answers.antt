-- `put_named` meets its contract: ` byte` and its number, or nothing.
use mathlib.Core.Path.{sym, ap}
use Rattle.text.proofs.Laws.{written_text, written_then}
use Rattle.phrases.specs.Phrases.{byte_text}
use Rattle.phrases.proofs.Pieces.{room_as}
use Rattle.phrases.proofs.put_named.Goals as goal

pub returns-in-Some-clause-written : goal.returns-in-Some-clause-written
returns-in-Some-clause-written c = let t = c.args.text.now in
    written_text (ap byte_text (sym c.in-Some.is))
    (written_then (room_as byte_text t.out.now t.at c.in-Some.is c.requires) c.put.ensures.written c.put_spaced.ensures.written)

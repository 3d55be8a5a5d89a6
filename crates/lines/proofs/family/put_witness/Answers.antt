-- `family::put_witness` meets its contract: each arm writes what the witness found says.
use mathlib.Core.Path.{sym, ap}
use mathlib.Core.List.{List}
use Prim.Native.Nat.{ℕ}
use Rattle.findings.specs.declared.Found.{Found}
use Rattle.text.proofs.Laws.{written_text, written_then}
use Rattle.phrases.proofs.Pieces.{room_as}
use Rattle.lines.specs.Lines.{witness_text}
use Rattle.lines.specs.Witnesses.{witness_in}
use Rattle.lines.proofs.family.put_witness.Goals as goal

abbrev text : List ℕ → Found → List ℕ
text records found = witness_text (witness_in found records)

pub returns-in-Pair-clause-written : goal.returns-in-Pair-clause-written
returns-in-Pair-clause-written c = let a = c.args in
    written_text (ap (text a.records.now) (sym c.in-Pair.is))
    (written_then (room_as (text a.records.now) a.text.now.out.now a.text.now.at c.in-Pair.is c.requires.0) c.put_spaced-in-Pair.ensures.written c.put_spaced-in-Pair-2.ensures.written)

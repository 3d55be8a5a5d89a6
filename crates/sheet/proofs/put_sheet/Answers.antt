-- `put_sheet` meets its contract: a batch that ended cleanly has its figures alone.
use mathlib.Core.Path.{sym, ap}
use mathlib.Core.List.{List}
use Prim.Native.Nat.{ℕ}
use Rattle.std.proofs.Common.{Result}
use Rattle.refusals.specs.declared.Refusal.{Refusal}
use Rattle.batches.specs.Batch.{end_of}
use Rattle.text.proofs.Laws.{written_text}
use Rattle.phrases.proofs.Pieces.{room_as}
use Rattle.tally.specs.declared.Figures.{Figures}
use Rattle.sheet.specs.Sheet.{sheet_text}
use Rattle.sheet.proofs.put_sheet.Goals as goal

abbrev text : Figures → Result (Unit {0}) Refusal → List ℕ
text f ending = sheet_text f (end_of ending)

pub put_figures-requires : goal.put_figures-requires
unfolding sheet_text
put_figures-requires c = let a = c.args in
    room_as (text a.figures) a.text.now.out.now a.text.now.at c.in-Ok.is c.requires

pub returns-in-Ok-clause-written : goal.returns-in-Ok-clause-written
unfolding sheet_text
returns-in-Ok-clause-written c = written_text (ap (text c.args.figures) (sym c.in-Ok.is)) c.put_figures.ensures.written

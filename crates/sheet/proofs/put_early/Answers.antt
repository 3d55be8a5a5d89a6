-- `put_early` meets its contract: the test is that of the text's definition.
use mathlib.Core.Path.{sym, subst}
use Rattle.text.proofs.Laws.{written_text, written_then}
use Rattle.phrases.specs.Phrases.{refused_text}
use Rattle.phrases.specs.Room.{Room}
use Rattle.phrases.proofs.Pieces.{room_front, room_back}
use Rattle.sheet.specs.Sheet.{figures_text}
use Rattle.sheet.proofs.Ending.{only_refused, both}
use Rattle.sheet.proofs.put_early.Goals as goal

pub put_refused-requires : goal.put_refused-requires
put_refused-requires c = let a = c.args in let t = a.text.now in
    subst (Room t.out.now t.at) (only_refused a.figures a.told c.if-told-eq1.true) c.requires

pub returns-then-told-eq1-clause-written : goal.returns-then-told-eq1-clause-written
returns-then-told-eq1-clause-written c = let a = c.args in
    written_text (sym (only_refused a.figures a.told c.if-told-eq1.true)) c.put_refused.ensures.written

pub put_figures-requires : goal.put_figures-requires
put_figures-requires c = let a = c.args in let t = a.text.now in
    room_front t.out.now t.at (figures_text a.figures) (refused_text a.told) (subst (Room t.out.now t.at) (both a.figures a.told c.if-told-eq1.false) c.requires)

pub put_refused-requires-2 : goal.put_refused-requires-2
put_refused-requires-2 c = let a = c.args in let t = a.text.now in
    room_back (refused_text a.told) (subst (Room t.out.now t.at) (both a.figures a.told c.if-told-eq1.false) c.requires) c.put_figures.ensures.written

pub returns-clause-written : goal.returns-clause-written
returns-clause-written c = let a = c.args in let t = a.text.now in
    let same = both a.figures a.told c.if-told-eq1.false in
    written_text (sym same) (written_then (subst (Room t.out.now t.at) same c.requires) c.put_figures.ensures.written c.put_refused-2.ensures.written)

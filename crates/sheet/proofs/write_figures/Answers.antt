-- `write_figures` meets its contract: the text is made aside, and handed over.
use mathlib.Core.Path.{sym}
use Rattle.phrases.proofs.Handing.{front_long, writes_such}
use Rattle.sheet.specs.Answer.{SheetOf}
use Rattle.sheet.proofs.write_figures.Goals as goal

pub slice_bounds-hand_over-end : goal.slice_bounds-hand_over-end
slice_bounds-hand_over-end c = sym (front_long (SheetOf _) c.put_monday-len.ensures)

pub returns : goal.returns
returns c = writes_such (SheetOf _) c.put_monday-len.ensures.text c.hand_over.ensures

-- `write_answer` meets its contract: the text is made aside, and handed over.
use mathlib.Core.Path.{sym}
use Rattle.phrases.proofs.Handing.{front_long, writes_such}
use Rattle.lines.specs.Answer.{TextOf}
use Rattle.lines.proofs.write_answer.Goals as goal

pub slice_bounds-hand_over-end : goal.slice_bounds-hand_over-end
slice_bounds-hand_over-end c = sym (front_long (TextOf _) c.put_answer-len.ensures)

pub returns : goal.returns
returns c = writes_such (TextOf _) c.put_answer-len.ensures.text c.hand_over.ensures

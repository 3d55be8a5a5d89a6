-- `write_opinion` meets its contract: the text is made aside, and handed over.
use mathlib.Core.Path.{sym}
use Rattle.opinion.specs.Opinion.{OpinionOf}
use Rattle.phrases.proofs.Handing.{front_long, writes_such}
use Rattle.opinion.proofs.write_opinion.Goals as goal

pub slice_bounds-hand_over-end : goal.slice_bounds-hand_over-end
slice_bounds-hand_over-end c = sym (front_long (OpinionOf _) c.put_opinion-len.ensures)

pub returns : goal.returns
returns c = writes_such (OpinionOf _) c.put_opinion-len.ensures.text c.hand_over.ensures

-- `put_answer` meets its contract: the text of what was judged has room.
use native.Mathlib.Omega.{arith}
use Rattle.lines.proofs.Answering.{text_room, text_at}
use Rattle.lines.proofs.Telling.{judged_there}
use Rattle.opinion.proofs.put_answer.Goals as goal

pub put_judged-requires : goal.put_judged-requires
put_judged-requires c = let there = judged_there (record { first = omega arith; second = omega arith }) c.judge-judged.ensures in
    (text_room c.args.out.now c.requires there.text, there.whole)

pub returns : goal.returns
returns c = let there = judged_there (record { first = omega arith; second = omega arith }) c.judge-judged.ensures in
    text_at c.args.out.now c.requires there.text c.put_judged.ensures

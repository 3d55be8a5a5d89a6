-- `write_answers` meets its contract: the texts are made aside, and copied if they have room.
use native.Mathlib.Omega.{arith}
use Rattle.answers.proofs.Copying.{no_room_for, copied}
use Rattle.answers.proofs.write_answers.Goals as goal

pub returns-then-out-answers : goal.returns-then-out-answers
returns-then-out-answers c = no_room_for c.put_texts-answers.ensures c.args.out.now (omega (arith, c.if-out-answers.true))

pub returns : goal.returns
returns c = copied c.put_texts-answers.ensures c.args.out.now (omega (arith, c.if-out-answers.false)) c.copy_from_slice.ensures.after

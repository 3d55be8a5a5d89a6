-- `judge` meets its contract: "1, 11, then records".
use mathlib.Core.Path.{refl}
use Rattle.laws.proofs.Says.{said, denied, says_is}
use Rattle.judge.specs.Answer.{wrong_length, no_room}
use Rattle.judge.proofs.Answering.{room_told, refused}
use Rattle.judge.proofs.judge.Goals as goal

pub judge_records-judged-requires : goal.judge_records-judged-requires
judge_records-judged-requires c = let length-ok = c.length_ok in
    let right = c.if-length_ok in
    (said (says_is length-ok.ensures) right.true, said (room_told _ _ c.has_room.ensures) c.if-has_room.true)

pub returns-else-has_room : goal.returns-else-has_room
returns-else-has_room c = refused (no_room (said (says_is c.length_ok.ensures) c.if-length_ok.true) (denied (room_told _ _ c.has_room.ensures) c.if-has_room.false) refl)

pub returns-else-length_ok : goal.returns-else-length_ok
returns-else-length_ok c = refused (wrong_length (denied (says_is c.length_ok.ensures) c.if-length_ok.false) refl)

-- `judge` meets its contract: "1, 11, then records".
use mathlib.Core.Path.{refl}
use borrow.Author.Rules.{rules}
use Rattle.laws.proofs.Says.{said, denied, says_is}
use Rattle.table.proofs.Front.{front_whole, records_test}
use Rattle.facts.proofs.Promise.{counted}
use Rattle.judge.specs.Answer.{wrong_length, no_room, bad_record}
use Rattle.judge.proofs.Answering.{room_told, refused, reported}
use Rattle.plain.proofs.judge.Goals as goal

pub returns-then-not-length_ok : goal.returns-then-not-length_ok
returns-then-not-length_ok c = refused (wrong_length (denied (says_is c.length_ok.ensures) c.if-not-length_ok.true) refl)

pub returns-then-not-has_room : goal.returns-then-not-has_room
returns-then-not-has_room c =
    refused (no_room (said (says_is c.length_ok.ensures) c.if-not-length_ok.false) (denied (room_told _ _ c.has_room.ensures) c.if-not-has_room.true) refl)

pub report_of-requires : goal.report_of-requires
report_of-requires c = let right = said (says_is c.length_ok.ensures) c.if-not-length_ok.false in
    let roomy = said (room_told _ _ c.has_room.ensures) c.if-not-has_room.false in
    (counted _ _ (records_test _ right c.in_ok-n.ensures), roomy)

pub returns : goal.returns
returns c = let right = said (says_is c.length_ok.ensures) c.if-not-length_ok.false in
    let roomy = said (room_told _ _ c.has_room.ensures) c.if-not-has_room.false in
    reported right roomy (rw (front_whole _ right) at c.in_ok-n.ensures) c.report_of.ensures

pub returns-in_err-n : goal.returns-in_err-n
returns-in_err-n c = let right = said (says_is c.length_ok.ensures) c.if-not-length_ok.false in
    let roomy = said (room_told _ _ c.has_room.ensures) c.if-not-has_room.false in
    let same = refused (bad_record right roomy (rw (front_whole _ right) at c.in_err-n.ensures)) in
    search (rules, same)

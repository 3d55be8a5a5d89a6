-- `appending::answer_for_new` meets its contract: the test of the new record is its test in the extended table.
use mathlib.Core.Path.{refl}
use native.Mathlib.Omega.{arith}
use Rattle.table.proofs.Exact.{passes_of, fault_of}
use Rattle.edit.specs.Append.{Ready, full, no_room, bad_new, good}
use Rattle.edit.proofs.NewRecord.{in_use_pass}
use Rattle.edit.proofs.appending.answer_for_new.Goals as goal

pub returns-then-used-eq-LIMIT : goal.returns-then-used-eq-LIMIT
returns-then-used-eq-LIMIT c = full c.requires c.if-used-eq-LIMIT.true refl

pub check_new-requires : goal.check_new-requires
check_new-requires c = record { held = c.requires.in_use.held; passed = in_use_pass c.requires }

pub returns-in-Ok : goal.returns-in-Ok
returns-in-Ok c = let ready : Ready c.args.buffer.now c.args.used = record { sound_use = c.requires; not_full = c.if-used-eq-LIMIT.false; room = c.if-used-buffer.true } in
    good ready (passes_of (rw c.in-Ok.is at c.check_new.ensures))

pub returns-in-Err : goal.returns-in-Err
returns-in-Err c = let ready : Ready c.args.buffer.now c.args.used = record { sound_use = c.requires; not_full = c.if-used-eq-LIMIT.false; room = c.if-used-buffer.true } in
    bad_new ready (fault_of (rw c.in-Err.is at c.check_new.ensures)) refl

pub returns : goal.returns
returns c = no_room c.requires c.if-used-eq-LIMIT.false (λ h. absurd (omega (arith, c.if-used-buffer.false))) refl

-- `appending::answer_in_use` meets its contract: the refusal of the records in use, or the answer for the new one.
use Rattle.std.proofs.Common.{rules, Err}
use Rattle.edit.specs.Append.{Decides, bad_record}
use Rattle.edit.proofs.NewRecord.{sound_use}
use Rattle.edit.proofs.appending.answer_in_use.Goals as goal

pub answer_for_new-requires : goal.answer_for_new-requires
answer_for_new-requires c = sound_use c.requires c.in_ok-test_records.ensures

pub returns-in_err-test_records : goal.returns-in_err-test_records
returns-in_err-test_records c =
    let bad : Decides c.args.buffer.now c.args.used c.args.new (Err c.in_err-test_records.field-0.0) = bad_record c.requires c.in_err-test_records.ensures in
    search (rules, bad)

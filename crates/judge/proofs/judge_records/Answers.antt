-- `judge_records` meets its contract: the first fault of the records, or the report.
use borrow.Author.Rules.{rules}
use Rattle.table.proofs.Front.{front_whole, records_test}
use Rattle.facts.proofs.Promise.{counted}
use Rattle.judge.specs.Answer.{bad_record}
use Rattle.judge.proofs.Answering.{refused, reported}
use Rattle.judge.proofs.judge_records.Goals as goal

pub report_of-requires : goal.report_of-requires
report_of-requires c = let (ok, roomy) = c.requires in
    (counted _ _ (records_test _ ok c.in_ok-n.ensures), roomy)

pub returns-in_err-n : goal.returns-in_err-n
returns-in_err-n c = let (ok, roomy) = c.requires in
    let same = refused (bad_record ok roomy (rw (front_whole _ ok) at c.in_err-n.ensures)) in
    search (rules, same)

pub returns : goal.returns
returns c = let (ok, roomy) = c.requires in
    reported ok roomy (rw (front_whole _ ok) at c.in_ok-n.ensures) c.report_of.ensures

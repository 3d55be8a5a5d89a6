-- `table::test` meets its contract: a table of a right length is all of its own first records.
use mathlib.Core.Path.{refl, sym, ◌∙◌}
use lib.ListN.{length}
use Rattle.laws.proofs.Says.{said, denied, says_T}
use Rattle.table.specs.Test.{length_ok, wrong_length}
use Rattle.table.proofs.Front.{records_test}
use Rattle.table.proofs.test.Goals as goal

pub returns-then-not-length_ok : goal.returns-then-not-length_ok
returns-then-not-length_ok c = let b = c.args.table.now in
    wrong_length (denied (says_T (length_ok (length b))) (sym c.length_ok.ensures ∙ c.if-not-length_ok.true)) refl

pub returns : goal.returns
returns c = let b = c.args.table.now in
    let right = said (says_T (length_ok (length b))) (sym c.length_ok.ensures ∙ c.if-not-length_ok.false) in
    records_test b right c.test_records.ensures

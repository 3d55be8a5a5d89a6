-- `refusal_of_fetch` meets its contract: each way out has the tests that led there.
use mathlib.Core.Path.{refl, sym, ◌∙◌}
use lib.ListN.{length}
use Rattle.laws.proofs.Says.{said, denied, says_T}
use Rattle.table.specs.Test.{length_ok}
use Rattle.fetch.specs.Fetched.{given, refused_1, refused_13}
use Rattle.fetch.proofs.refusal_of_fetch.Goals as goal

pub returns-then-n-len : goal.returns-then-n-len
returns-then-n-len c = given (said (says_T (length_ok (length c.args.table.now))) (sym c.length_ok.ensures ∙ c.if-length_ok.true)) c.if-n-len.true

pub returns-then-length_ok : goal.returns-then-length_ok
returns-then-length_ok c = refused_13 (said (says_T (length_ok (length c.args.table.now))) (sym c.length_ok.ensures ∙ c.if-length_ok.true)) c.if-n-len.false refl

pub returns : goal.returns
returns c = refused_1 (denied (says_T (length_ok (length c.args.table.now))) (sym c.length_ok.ensures ∙ c.if-length_ok.false)) refl

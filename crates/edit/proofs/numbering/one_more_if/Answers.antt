-- `numbering::one_more_if` meets its contract: by the test that led there.
use native.Mathlib.Omega.{arith}
use Rattle.edit.proofs.numbering.one_more_if.Goals as goal

pub returns-then-kept : goal.returns-then-kept
returns-then-kept c = rw c.if-kept.true (omega arith)

pub returns-else-kept : goal.returns-else-kept
returns-else-kept c = rw c.if-kept.false

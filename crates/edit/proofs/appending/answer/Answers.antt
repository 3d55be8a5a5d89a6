-- `appending::answer` meets its contract: what is not in use as it should be is refused with 1.
use mathlib.Core.Path.{refl}
use native.Mathlib.Omega.{arith}
use Rattle.edit.specs.Append.{not_in_use}
use Rattle.edit.proofs.appending.answer.Goals as goal

pub returns-then-used-le-LIMIT : goal.returns-then-used-le-LIMIT
returns-then-used-le-LIMIT c = not_in_use (λ used. absurd (omega (arith, c.if-used-buffer.false, used.held))) refl

pub returns : goal.returns
returns c = not_in_use (λ used. absurd (omega (arith, c.if-used-le-LIMIT.false, used.few))) refl

pub returns-then-used-buffer : goal.returns-then-used-buffer
returns-then-used-buffer c = c.answer_in_use.ensures

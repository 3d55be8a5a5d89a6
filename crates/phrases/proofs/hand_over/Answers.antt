-- `hand_over` meets its contract: the text is copied if it has room.
use native.Mathlib.Omega.{arith}
use Rattle.phrases.proofs.Handing.{too_short, handed}
use Rattle.phrases.proofs.hand_over.Goals as goal

pub returns-then-out-len : goal.returns-then-out-len
returns-then-out-len c = too_short c.args.text.now c.args.out.now (omega (arith, c.if-out-len.true))

pub returns : goal.returns
returns c = handed c.args.text.now c.args.out.now (omega (arith, c.if-out-len.false)) c.copy_from_slice.ensures.after

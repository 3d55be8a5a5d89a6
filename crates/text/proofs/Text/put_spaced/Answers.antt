-- `put_spaced` meets its contract: the space, and then the number.
use native.Mathlib.Omega.{arith}
use Rattle.text.proofs.Laws.{written_then}
use Rattle.text.proofs.Text.put_spaced.Goals as goal

pub returns-clause-written : goal.returns-clause-written
returns-clause-written c = written_then (omega (arith, c.requires)) c.put_byte.ensures.written c.put_decimal.ensures.written

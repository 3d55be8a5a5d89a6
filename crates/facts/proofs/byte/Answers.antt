-- `byte` meets its contract: the byte of the table is that of the record.
use native.Mathlib.Omega.{arith}
use Rattle.facts.proofs.Bytes.{byte_of_part}
use Rattle.facts.proofs.byte.Goals as goal

pub returns : goal.returns
returns c = let a = c.args in
    byte_of_part a.table.now a.n a.i (omega arith)

-- `appending::append` meets its contract: the new record is written only where its count is answered.
use Rattle.std.proofs.Common.{rules, refl, Err}
use native.Mathlib.Omega.{arith}
use Rattle.edit.specs.Append.{AppendAnswer}
use Rattle.edit.proofs.NewRecord.{count_ready}
use Rattle.edit.proofs.appending.append.Goals as goal

pub write_at-requires : goal.write_at-requires
write_at-requires c = omega (arith, (count_ready c.in_ok-count.ensures refl).room)

pub returns : goal.returns
returns c = record { decided = c.in_ok-count.ensures; bytes = c.write_at.ensures }

pub returns-in_err-count : goal.returns-in_err-count
returns-in_err-count c =
    let same : AppendAnswer c.args.buffer.now c.args.used c.args.new c.args.buffer.now (Err c.in_err-count.field-0.0) = record { decided = c.in_err-count.ensures; bytes = refl } in
    search (rules, same)

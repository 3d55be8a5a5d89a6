-- `put_text` meets its contract: there is room, so that the text is written.
use native.Mathlib.Omega.{arith}
use Rattle.answers.proofs.Placing.{never_refused, fits_there, put_there}
use Rattle.answers.proofs.put_text.Goals as goal

pub overflow_add-result : goal.overflow_add-result
overflow_add-result c = omega (arith, fits_there c.args.table.now c.args.out.now c.args.at c.requires c.write_answer.ensures c.in-Ok.is)

pub returns-in-Ok : goal.returns-in-Ok
returns-in-Ok c = put_there c.args.table.now c.args.out.now c.args.at c.requires c.write_answer.ensures c.in-Ok.is

pub returns-in-Err : goal.returns-in-Err
returns-in-Err c = never_refused c.args.table.now c.args.out.now c.args.at c.requires c.write_answer.ensures c.in-Err.is

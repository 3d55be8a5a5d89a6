-- `row::add` meets its contract: one bit of one word.
use Rattle.rows.proofs.Rows.{row_add}
use Rattle.rows.proofs.row.add.Goals as goal

pub returns : goal.returns
returns g c = rw c.take_in.ensures.after (row_add g.row.W c.args.a c.args.b c.requires.0 c.requires.1 c.take_in.ensures.width)

-- `row::drop` meets its contract: one bit of one word.
use Rattle.rows.proofs.Rows.{row_drop}
use Rattle.rows.proofs.row.drop.Goals as goal

pub returns : goal.returns
returns g c = rw c.let_go.ensures.after (row_drop g.row.W c.args.a c.args.b c.requires.0 c.requires.1 c.let_go.ensures.width)

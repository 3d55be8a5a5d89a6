-- `Set::add` meets its contract: one bit of one word.
use Rattle.rows.proofs.Sets.{set_add}
use Rattle.rows.proofs.set.Set.add.Goals as goal

pub returns : goal.returns
returns g c = rw c.take_in.ensures.after (set_add c.args.a c.requires c.take_in.ensures.width)

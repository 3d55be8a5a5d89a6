-- `reads::is_raced` meets its contract: the row is not empty.
use Rattle.seeking.proofs.Reading.{says_some}
use Rattle.seeking.proofs.reads.is_raced.Goals as goal

pub returns : goal.returns
returns g c = says_some c.row.ensures c.is_empty.ensures

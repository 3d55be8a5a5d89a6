-- `reads::is_written` meets its contract: the two rows have a number in common.
use Rattle.rows.proofs.Sets.{both_of}
use Rattle.seeking.proofs.Reading.{says_some}
use Rattle.seeking.proofs.reads.is_written.Goals as goal

pub returns : goal.returns
returns g c = says_some (both_of c.row.ensures c.row-2.ensures c.and.ensures) c.is_empty.ensures

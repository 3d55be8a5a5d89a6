-- `completeness::least_lacking` meets its contract: the columns are read, and hb, the writes of each place and the races are laid in rows.
use Rattle.columns.proofs.Lending.{lent_columns}
use Rattle.edit.proofs.Lending.{laying, judging}
use Rattle.edit.proofs.completeness.least_lacking.Goals as goal

pub returns : goal.returns
returns c = let columns = lent_columns c.view-of.ensures c.read-fields.ensures.columns in
    c.least_lacking_by.ensures _ (judging columns (c.lay.ensures _ (laying columns)))

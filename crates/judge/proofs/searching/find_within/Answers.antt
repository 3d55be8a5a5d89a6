-- `searching::find_within` meets its contract: the columns are read, what the searches stand on is laid, and each finding is searched for.
use Rattle.columns.proofs.Lending.{lent_columns}
use Rattle.judge.proofs.Grounds.{laying, based}
use Rattle.judge.proofs.searching.find_within.Goals as goal

pub returns : goal.returns
returns g c = let columns = lent_columns c.view-of.ensures c.read-fields.ensures.columns in
    c.find_each.ensures _ (based columns (c.lay.ensures _ (laying columns)))

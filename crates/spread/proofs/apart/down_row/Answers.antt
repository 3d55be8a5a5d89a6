-- `apart::down_row` meets its contract: row b is all that stands under b, and is handed up twice.
use Rattle.spread.proofs.Arms.{all_under_row, below_handed, arms_handed}
use Rattle.spread.proofs.apart.down_row.Goals as goal

pub returns : goal.returns
returns g c = let pre = c.requires in
    let under = all_under_row pre.low pre.under c.row.ensures c.row-2.ensures c.or-under.ensures in record {
      under = below_handed pre.low under pre.under c.hand_up.ensures c.put.ensures;
      under_arms = arms_handed pre.low under pre.under_arms c.hand_up-2.ensures;
    }

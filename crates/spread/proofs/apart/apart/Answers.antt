-- `apart::apart` meets its contract: downward, then upward.
use Rattle.spread.proofs.Arms.{beside_of}
use Rattle.spread.proofs.apart.apart.Goals as goal

pub returns : goal.returns
returns g c = let down = c.downward.ensures in
    (down.under, down.under_arms, beside_of down.under.holds down.under_arms.holds c.upward.ensures)

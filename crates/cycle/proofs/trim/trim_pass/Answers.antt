-- `trim::trim_pass` meets its contract: what is left is fed and feeds.
use Rattle.rows.proofs.Sets.{is_iff}
use Rattle.cycle.proofs.Trimming.{keeps_fed}
use Rattle.cycle.proofs.trim.trim_pass.Goals as goal

pub returns : goal.returns
returns g c = let alive = c.row.ensures in
    keeps_fed c.drop_unfed-sources.ensures
    (is_iff (λ a z. (alive.only a z.0, z.1)) (λ a z. (alive.all a z.0, z.1)) c.and.ensures) c.put.ensures

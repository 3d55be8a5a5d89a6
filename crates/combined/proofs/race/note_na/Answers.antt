-- `race::note_na` meets its contract: b is NA, or it is not.
use mathlib.Core.Path.{◌≡◌, sym, ◌∙◌}
use native.Mathlib.Omega.{arith}
use Rattle.rows.proofs.Noted.{noted, not_noted}
use Rattle.combined.proofs.Racing.{order_up, order_down}
use Rattle.combined.proofs.race.note_na.Goals as goal

pub returns-then-order-b-eq0 : goal.returns-then-order-b-eq0
returns-then-order-b-eq0 g c = let na = c.if-order-b-eq0.true in
    noted _ _ order_up order_down c.requires.held (omega arith) (record { low = omega arith; is = na }) (λ l s. sym s.is ∙ na) c.add.ensures

pub returns-else-order-b-eq0 : goal.returns-else-order-b-eq0
returns-else-order-b-eq0 g c =
    not_noted _ _ order_up order_down c.requires.held (λ l j s. let e : l ≡ 0 = omega (arith, j) in c.if-order-b-eq0.false (s.is ∙ e))

-- `race::race_row` meets its contract: of an NA record all that race, of another those that are NA.
use mathlib.Core.Logic.{inl, inr, ⊎_elim}
use Rattle.rows.proofs.Sets.{is_iff, both_of, without_of}
use Rattle.combined.proofs.race.race_row.Goals as goal

pub returns-then-order-b-eq0 : goal.returns-then-order-b-eq0
returns-then-order-b-eq0 g c = is_iff (λ a z. record { here = z.0.0; not_atomic = inr c.if-order-b-eq0.true; not_before = z.0.1; no_conflict = z.1 })
    (λ a r. ((r.here, r.not_before), r.no_conflict))
    (without_of (without_of c.row-here.ensures c.row.ensures c.without.ensures) c.row-2.ensures c.without-racing.ensures)

pub returns : goal.returns
returns g c = let known = without_of (without_of c.row-here.ensures c.row.ensures c.without.ensures) c.row-2.ensures c.without-racing.ensures in
    is_iff (λ a z. record { here = z.0.0.0; not_atomic = inl z.1; not_before = z.0.0.1; no_conflict = z.0.1 })
    (λ a r. (((r.here, r.not_before), r.no_conflict), ⊎_elim (λ o. o) (λ e. absurd (c.if-order-b-eq0.false e)) r.not_atomic))
    (both_of known c.row-3.ensures c.and.ensures)

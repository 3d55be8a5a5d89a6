-- Laws of the relations: po by the parent, hb by its last step, conflict by cases and downward.
use mathlib.Core.Path.{◌≡◌, refl, sym, subst}
use mathlib.Core.Logic.{◌⊎◌, inl, inr, ◌↔◌}
use Prim.Native.Nat.{ℕ}
use Rattle.laws.specs.Steps.{one, more}
use Rattle.laws.proofs.Steps.{plus_trans}
use Rattle.model.specs.Table.{Table, Inside, Parent}
use Rattle.model.specs.Relations.{Po, AtOrAbove, equal, above, Apart, Conflict, Sw, PoOrSw, by_po, by_sw, Hb, Race}
use Rattle.model.specs.WellFormed.{WellFormed}
use Rattle.model.proofs.Facts.{location_sym, one_parent}
use Rattle.model.proofs.Within.{po_within}

-- the last step of hb: from the parent or by sw, from a record that is a or that a is hb before
pub record HbLast (t : Table) (a b : ℕ) : Type 0 where
  pub from : ℕ
  pub step : Parent t from b ⊎ Sw t from b
  pub rest : (a ≡ from) ⊎ Hb t a from

-- conflict by cases: of the two themselves, of a's parent with b, of a with b's parent
pub data ConflictBy (t : Table) (a b : ℕ) : Type 0 where
  themselves : Apart t a b → ConflictBy t a b
  first_parent : {p : ℕ} → Parent t p a → Conflict t p b → ConflictBy t a b
  second_parent : {p : ℕ} → Parent t p b → Conflict t a p → ConflictBy t a b

module _ (t : Table) where
  -- po by the parent
  pub po_iff_parent : (a p b : ℕ) → Parent t p b → Po t a b ↔ ((a ≡ p) ⊎ Po t a p)
  po_iff_parent a p b e = (to, from)
    where
      to : Po t a b → (a ≡ p) ⊎ Po t a p
      to (one f) = inl (one_parent t a p b f e)
      to (more {m = m} u f) = inr (subst (Po t a) (one_parent t m p b f e) u)

      from : (a ≡ p) ⊎ Po t a p → Po t a b
      from (inl q) = one (subst (λ (z : ℕ). Parent t z b) (sym q) e)
      from (inr u) = more u e

module _ {t : Table} where
  -- ---- hb by its last step

  from_above : {a m b : ℕ} → (a ≡ m) ⊎ Hb t a m → Po t m b → HbLast t a b
  from_above {m = m} r (one e) = record { from = m; step = inl e; rest = r }
  from_above {a} {m} r (more {m = p} u e) = record { from = p; step = inl e; rest = inr (onto r) }
    where
      onto : (a ≡ m) ⊎ Hb t a m → Hb t a p
      onto (inl q) = subst (λ (z : ℕ). Hb t z p) (sym q) (one (by_po u))
      onto (inr h) = more h (by_po u)

  from_step : {a m b : ℕ} → (a ≡ m) ⊎ Hb t a m → PoOrSw t m b → HbLast t a b
  from_step r (by_po u) = from_above r u
  from_step {m = m} r (by_sw s) = record { from = m; step = inr s; rest = r }

  hb_last : {a b : ℕ} → Hb t a b → HbLast t a b
  hb_last (one s) = from_step (inl refl) s
  hb_last (more h s) = from_step (inr h) s

  last_hb : {a b : ℕ} → HbLast t a b → Hb t a b
  last_hb {a} {b} l = go l.step l.rest
    where
      step : Parent t l.from b ⊎ Sw t l.from b → PoOrSw t l.from b
      step (inl e) = by_po (one e)
      step (inr s) = by_sw s

      go : Parent t l.from b ⊎ Sw t l.from b → (a ≡ l.from) ⊎ Hb t a l.from → Hb t a b
      go s (inl e) = subst (λ (z : ℕ). Hb t z b) (sym e) (one (step s))
      go s (inr h) = more h (step s)

  pub hb_iff_last : {a b : ℕ} → Hb t a b ↔ HbLast t a b
  hb_iff_last = (hb_last, last_hb)

  -- ---- conflict

  apart_sym : {a b : ℕ} → Apart t a b → Apart t b a
  apart_sym c =
      record { one_thread = sym c.one_thread; differ = λ e. c.differ (sym e); not_above = c.not_below; not_below = c.not_above }

  pub conflict_sym : {a b : ℕ} → Conflict t a b → Conflict t b a
  conflict_sym c =
      record { a' = c.b'; b' = c.a'; above_a = c.above_b; above_b = c.above_a; apart = apart_sym c.apart }

  above_trans : {a b c : ℕ} → AtOrAbove t a b → AtOrAbove t b c → AtOrAbove t a c
  above_trans u (equal h) = u
  above_trans (equal h) (above v) = above v
  above_trans (above u) (above v) = above (plus_trans u v)

  -- "So conflict passes to everything below, child threads included."
  pub conflict_below : {a b c d : ℕ} → Conflict t a b → AtOrAbove t a c → AtOrAbove t b d → Conflict t c d
  conflict_below k u v =
      record { a' = k.a'; b' = k.b'; above_a = above_trans k.above_a u; above_b = above_trans k.above_b v; apart = k.apart }

  pub race_sym : {a b : ℕ} → Race t a b → Race t b a
  race_sym {a} {b} r =
      record { differ = λ e. r.differ (sym e); one_location = location_sym t a b r.one_location; a_write = swap r.a_write; a_NA = swap r.a_NA; not_before = r.not_after; not_after = r.not_before; no_conflict = λ c. r.no_conflict (conflict_sym c) }
    where
      swap : {P Q : Type 0} → P ⊎ Q → Q ⊎ P
      swap (inl p) = inr p
      swap (inr q) = inl q

module _ {t : Table} (ok : WellFormed t) where
  -- ---- conflict by cases

  climb : {a b : ℕ} → Po t a b → (p : ℕ) × (Parent t p b × AtOrAbove t a p)
  climb {a} (one e) = (a, (e, equal ((po_within ok).left (one e))))
  climb (more {m = p} u e) = (p, (e, above u))

  conflict_cases : {a b : ℕ} → Conflict t a b → ConflictBy t a b
  conflict_cases {a} {b} c = go c.above_a c.above_b c.apart
    where
      go : {a' b' : ℕ} → AtOrAbove t a' a → AtOrAbove t b' b → Apart t a' b' → ConflictBy t a b
      go (equal h) (equal k) x = themselves x
      go {a'} {b'} (equal h) (above v) x =
          let (p, (e, w)) = climb v in
          second_parent e (record { a' = a'; b' = b'; above_a = equal h; above_b = w; apart = x })
      go {a'} {b'} (above u) v x =
          let (p, (e, w)) = climb u in
          first_parent e (record { a' = a'; b' = b'; above_a = w; above_b = v; apart = x })

  cases_conflict : {a b : ℕ} → Inside t a → Inside t b → ConflictBy t a b → Conflict t a b
  cases_conflict {a} {b} h k (themselves x) = record { a' = a; b' = b; above_a = equal h; above_b = equal k; apart = x }
  cases_conflict h k (first_parent e c) = conflict_below c (above (one e)) (equal k)
  cases_conflict h k (second_parent e c) = conflict_below c (equal h) (above (one e))

  pub conflict_iff_cases : {a b : ℕ} → Inside t a → Inside t b → Conflict t a b ↔ ConflictBy t a b
  conflict_iff_cases h k = (conflict_cases, cases_conflict h k)

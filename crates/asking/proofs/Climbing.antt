-- Climbing from b for something that has P: at b, or on from its parent. Conflict is two such climbs.
use Rattle.std.specs.Prelude.{Option, None, Some}
use mathlib.Core.Path.{◌≡◌, refl, sym, subst, ◌∙◌}
use mathlib.Core.Logic.{◌⊎◌, inl, inr, ⊎_elim}
use mathlib.Core.Bool.{Bool, true, false}
use Prim.Native.Nat.{ℕ}
use Rattle.laws.specs.Says.{Says}
use Rattle.laws.specs.Steps.{one, more}
use Rattle.laws.proofs.Says.{said, denied, says_no, says_iff}
use Rattle.model.specs.Table.{Table, Inside, Parent}
use Rattle.model.specs.Relations.{AtOrAbove, equal, above, Conflict}
use Rattle.model.specs.WellFormed.{WellFormed}
use Rattle.model.proofs.Facts.{one_parent}
use Rattle.model.proofs.Within.{po_within}
use Rattle.model.proofs.Fields.{absent_to}
use Rattle.asking.specs.Climb.{Above, ApartAbove}

-- one climb: x is at or above the parent of b
record Up (t : Table) (x b : ℕ) : Type 0 where
  p : ℕ
  parent : Parent t p b
  rest : AtOrAbove t x p

module _ {t : Table} (ok : WellFormed t) where
  up : {x b : ℕ} → AtOrAbove t x b → (x ≡ b) ⊎ Up t x b
  up (equal h) = inl refl
  up {x} (above (one e)) = inr (record { p = x; parent = e; rest = equal ((po_within ok).left (one e)) })
  up (above (more {m = m} u e)) = inr (record { p = m; parent = e; rest = above u })

  down : {x p b : ℕ} → Parent t p b → AtOrAbove t x p → AtOrAbove t x b
  down e (equal h) = above (one e)
  down e (above u) = above (more u e)

  module _ {P : ℕ → Type 0} {b : ℕ} where
    by_case : Above t P b → P b ⊎ ((p : ℕ) × (Parent t p b × Above t P p))
    by_case z =
        ⊎_elim (λ e. inl (subst P e z.has)) (λ u. inr (u.p, (u.parent, record { at = z.at; above = u.rest; has = z.has }))) (up z.above)

    module _ {here : Bool} (says : Says here (P b)) where
      pub climb_here : Inside t b → here ≡ true → Says here (Above t P b)
      climb_here h e = says_iff (λ p. record { at = b; above = equal h; has = p }) (λ _. said says e) says

      module _ (e : here ≡ false) {link : Option ℕ} (is : link ≡ (t.at b).parent) where
        pub climb_ends : link ≡ None → Says false (Above t P b)
        climb_ends q = says_no (λ z. ⊎_elim (denied says e) (λ (p, (f, y)). absent_to q (is ∙ f)) (by_case z))

        pub climb_on : {p : ℕ} {r : Bool} → link ≡ Some p → Says r (Above t P p) → Says r (Above t P b)
        climb_on {p} q =
            let f : Parent t p b = sym is ∙ q in
            says_iff (λ z. record { at = z.at; above = down f z.above; has = z.has })
            (λ z. ⊎_elim (λ h. absurd (denied says e h)) (λ (x, (g, y)). subst (Above t P) (one_parent t x p b g f) y) (by_case z))

-- a climbs, and at each record b climbs anew
module _ {t : Table} {a b : ℕ} {r : Bool} where
  pub says_conflict : Says r (Above t (λ x. ApartAbove t x b) a) → Says r (Conflict t a b)
  says_conflict =
      says_iff (λ z. record { a' = z.at; b' = z.has.at; above_a = z.above; above_b = z.has.above; apart = z.has.has })
      (λ c. record { at = c.a'; above = c.above_a; has = record { at = c.b'; above = c.above_b; has = c.apart } })

  pub conflict_says : Says r (Conflict t a b) → Says r (Above t (λ x. ApartAbove t x b) a)
  conflict_says =
      says_iff (λ c. record { at = c.a'; above = c.above_a; has = record { at = c.b'; above = c.above_b; has = c.apart } })
      (λ z. record { a' = z.at; b' = z.has.at; above_a = z.above; above_b = z.has.above; apart = z.has.has })

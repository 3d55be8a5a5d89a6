-- What is handed on to one owner after another, and for one number after another.
use mathlib.Core.Path.{◌≡◌, refl, sym, subst}
use mathlib.Core.List.{List}
use mathlib.Core.Logic.{◌⊎◌, inl, inr, ⊎_map}
use Prim.Native.Nat.{ℕ, ◌+◌, ◌<◌, ◌≤◌}
use native.Mathlib.Omega.{arith}
use native.Mathlib.Decide.{ℕ_discrete}
use lib.ListN.{get_or}
use Rattle.laws.specs.Steps.{Plus}
use Rattle.rows.specs.declared.set.Set.{Set}
use Rattle.rows.specs.Sets.{In, Is}
use Rattle.rows.specs.Rows.{On, Holds, MadeRow, Made}
use Rattle.rows.specs.Steps.{Leads, ByEither, Then}
use Rattle.rows.proofs.Parts.{outside_none}
use Rattle.rows.proofs.Rows.{made_row_iff, made_row_trans, made_iff, made_again, made_held}
use Rattle.combined.specs.Writes.{Owning, Owning.itself, Owning.as_source, HandedOn, NoneItself, Taking, Taking.kept, Taking.new, Handed}

-- whom b's owners are: itself, and the number that the source column leads from
module _ {kind source : List ℕ} where
  pub owning : {o b : ℕ} → ((2 ≤ get_or kind b 0) × (o ≡ b)) ⊎ Leads source o b → Owning kind source o b
  owning {b = b} (inl (h, e)) = subst (λ (z : ℕ). Owning kind source z b) (sym e) (itself h)
  owning (inr l) = as_source l

  pub owned_by : {o b : ℕ} → Owning kind source o b → ((2 ≤ get_or kind b 0) × (o ≡ b)) ⊎ Leads source o b
  owned_by (itself h) = inl (h, refl)
  owned_by (as_source l) = inr l

module _ {w n b : ℕ} {New : ℕ → Type 0} {owners out : List (List ℕ)} where
  pub handed_none : Handed w n b (λ _. ⊥) New owners out owners out
  handed_none = record {
    owned = record { rest = outside_none; all = λ a z. before z; only = λ a o. inl o };
    taken = made_held (record { all = λ a o _ z. was z; only = λ a o _ x. kept x });
  }
    where
      before : {a : ℕ} → On w owners a b ⊎ ⊥ → On w owners a b
      before (inl o) = o
      before (inr z) = absurd z

      was : {a o : ℕ} → Taking (λ _. ⊥) New (On w out) a o → On w out a o
      was (kept x) = x
      was (new z q d) = absurd z

  pub handed_iff :
      {P Q : ℕ → Type 0} {owners' out' : List (List ℕ)} → ((o : ℕ) → P o → Q o) → ((o : ℕ) → Q o → P o) → Handed w n b P New owners out owners' out'
      → Handed w n b Q New owners out owners' out'
  handed_iff {P} {Q} f g h = record {
    owned = made_row_iff (λ a. ⊎_map (λ o. o) (f a)) (λ a. ⊎_map (λ o. o) (g a)) h.owned;
    taken = made_iff (λ a o _. to f) (λ a o _. to g) h.taken;
  }
    where
      to : {P Q : ℕ → Type 0} {a o : ℕ} → ((o : ℕ) → P o → Q o) → Taking P New (On w out) a o → Taking Q New (On w out) a o
      to f (kept x) = kept x
      to {o = o} f (new p q d) = new (f o p) q d

  -- one owner more
  module _
      {P : ℕ → Type 0} {owners₁ out₁ : List (List ℕ)} {o : ℕ} (apart : NoneItself w n out) (low : o < n)
      (h : Handed w n b P New owners out owners₁ out₁)
    where
      more_owned :
          {owners₂ : List (List ℕ)} → MadeRow w b (λ x. On w owners₁ x b ⊎ (x ≡ o)) owners₁ owners₂
          → MadeRow w b (λ x. On w owners x b ⊎ (P x ⊎ (x ≡ o))) owners owners₂
      more_owned r = made_row_trans h.owned (made_row_iff to from r)
        where
          to : (x : ℕ) → On w owners₁ x b ⊎ (x ≡ o) → On w owners x b ⊎ (P x ⊎ (x ≡ o))
          to x (inl y) = ⊎_map (λ z. z) inl (h.owned.only x y)
          to x (inr e) = inr (inr e)

          from : (x : ℕ) → On w owners x b ⊎ (P x ⊎ (x ≡ o)) → On w owners₁ x b ⊎ (x ≡ o)
          from x (inl y) = inl (h.owned.all x (inl y))
          from x (inr (inl p)) = inl (h.owned.all x (inr p))
          from x (inr (inr e)) = inr e

      up : (a c : ℕ) → Taking P New (On w out) a c → Taking (λ x. P x ⊎ (x ≡ o)) New (On w out) a c
      up a c (kept x) = kept x
      up a c (new p q d) = new (inl p) q d

      down : (a c : ℕ) → ¬ (c ≡ o) → Taking (λ x. P x ⊎ (x ≡ o)) New (On w out) a c → Taking P New (On w out) a c
      down a c ne (kept x) = kept x
      down a c ne (new (inl p) q d) = new p q d
      down a c ne (new (inr e) q d) = absurd (ne e)

      more_taken :
          {out₂ : List (List ℕ)} → MadeRow w o (λ a. (On w out₁ a o ⊎ New a) × (¬ (a ≡ o))) out₁ out₂ → Made w n (Taking (λ x. P x ⊎ (x ≡ o)) New (On w out)) out out₂
      more_taken r = made_again o low (λ a c _. up a c) down h.taken (made_row_iff to from r)
        where
          to : (a : ℕ) → (On w out₁ a o ⊎ New a) × (¬ (a ≡ o)) → Taking (λ x. P x ⊎ (x ≡ o)) New (On w out) a o
          to a (inl y, d) = up a o (h.taken.holds.only a o low y)
          to a (inr q, d) = new (inr refl) q d

          from : (a : ℕ) → Taking (λ x. P x ⊎ (x ≡ o)) New (On w out) a o → (On w out₁ a o ⊎ New a) × (¬ (a ≡ o))
          from a (kept x) = (inl (h.taken.holds.all a o low (kept x)), λ e. apart.apart o low (subst (λ (z : ℕ). On w out z o) e x))
          from a (new (inl p) q d) = (inl (h.taken.holds.all a o low (new p q d)), d)
          from a (new (inr e) q d) = (inr q, d)

      pub handed_more :
          {owners₂ out₂ : List (List ℕ)} → MadeRow w b (λ x. On w owners₁ x b ⊎ (x ≡ o)) owners₁ owners₂ → MadeRow w o (λ a. (On w out₁ a o ⊎ New a) × (¬ (a ≡ o))) out₁ out₂
          → Handed w n b (λ x. P x ⊎ (x ≡ o)) New owners out owners₂ out₂
      handed_more r t = record { owned = more_owned r; taken = more_taken t }

-- what is handed on to b's owners, after what was handed on for the numbers below b
module _
    {w n b : ℕ} {parent sync kind source place : List ℕ} {at out : List (List ℕ)} {s : Set w} (held : Holds w n (HandedOn b parent sync kind source place (On w at)) out)
    (known : Is s (λ a. Then (Owning kind source) (Plus (ByEither parent sync)) a b × On w at a (get_or place b 0)))
    {a o : ℕ} (low : o < n)
  where
    pub taking_handed :
        Taking (λ x. Owning kind source x b) (In s) (On w out) a o
        → HandedOn (b + 1) parent sync kind source place (On w at) a o
    taking_handed (kept x) =
        let h = held.only a o low x in
        record { of = h.of; low = omega (arith, h.low); owned = h.owned; before = h.before; one_place = h.one_place; differ = h.differ }
    taking_handed (new p q d) =
        let k = known.only a q in
        record { of = b; low = omega arith; owned = p; before = k.0; one_place = k.1; differ = d }

    pub handed_taking :
        HandedOn (b + 1) parent sync kind source place (On w at) a o
        → Taking (λ x. Owning kind source x b) (In s) (On w out) a o
    handed_taking h = by (ℕ_discrete h.of b)
      where
        by : Dec (h.of ≡ b) → Taking (λ x. Owning kind source x b) (In s) (On w out) a o
        by (yes e) =
            new (subst (Owning kind source o) e h.owned)
            (known.all a (subst (Then (Owning kind source) (Plus (ByEither parent sync)) a) e h.before, subst (λ (z : ℕ). On w at a (get_or place z 0)) e h.one_place))
            h.differ
        by (no ne) =
            kept
            (held.all a o low
            (record { of = h.of; low = omega (arith, h.low, ne); owned = h.owned; before = h.before; one_place = h.one_place; differ = h.differ }))

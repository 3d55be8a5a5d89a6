-- A column that leads from one number to two.
use mathlib.Core.Path.{◌≡◌, refl, sym, subst}
use mathlib.Core.List.{List}
use mathlib.Core.Logic.{◌⊎◌, inl, inr, ⊎_elim}
use Prim.Native.Nat.{ℕ, ◌+◌, ◌≤◌, ◌<◌}
use native.Mathlib.Omega.{arith}
use native.Mathlib.Decide.{ℕ_discrete}
use lib.ListN.{get_or}
use Rattle.laws.specs.Steps.{Rel}
use Rattle.laws.proofs.Closure.{tri}
use Rattle.rows.specs.declared.set.Set.{Set}
use Rattle.rows.specs.Sets.{In, Is}
use Rattle.rows.specs.Steps.{Leads}
use Rattle.rows.proofs.Sets.{is_iff}
use Rattle.rows.proofs.Steps.{star_rises}
use Rattle.spread.specs.Apart.{Under, UnderArms, Beside, Apart, Forks}

-- where something stands under another arm, there are two
pub apart_forks : {n a b : ℕ} {parent arm : List ℕ} {X : Rel} → b < n → Apart n parent arm X a b → Forks n arm
apart_forks {n} {a} {b} {parent} {arm} {X} l x =
    tri other.of x.mid
    (λ h. record { from = beside.from; first = other.of; second = x.mid; apart = h; low = low; to_first = other.is; to_second = beside.is })
    (λ e. absurd (beside.not_under (subst (Under n parent X a) e other.under)))
    (λ h. record { from = beside.from; first = x.mid; second = other.of; apart = h; low = other.low; to_first = beside.is; to_second = other.is })
  where
    beside : Beside n parent arm X a x.mid
    beside = x.first

    other : UnderArms n parent arm X a beside.from
    other = beside.among

    low : x.mid < n
    low = omega (arith, l, star_rises (λ _ _ s. s.falls) x.next)

-- the column leads from v to a number below b
pub record LedBelow (column : List ℕ) (b v : ℕ) : Type 0 where
  pub to : ℕ
  pub low : to < b
  pub is : Leads column v to

module _ {column : List ℕ} {b : ℕ} where
  led_more : {v : ℕ} → LedBelow column b v → LedBelow column (b + 1) v
  led_more x = record { to = x.to; low = omega (arith, x.low); is = x.is }

  more_led : {v : ℕ} → LedBelow column (b + 1) v → LedBelow column b v ⊎ Leads column v b
  more_led {v} x = by (ℕ_discrete x.to b)
    where
      by : Dec (x.to ≡ b) → LedBelow column b v ⊎ Leads column v b
      by (yes e) = inr (subst (Leads column v) e x.is)
      by (no ne) = inl (record { to = x.to; low = omega (arith, x.low); is = x.is })

  -- two below b, or b itself is the second
  more_forks : Forks (b + 1) column → Forks b column ⊎ ((get_or column b 0 < b) × LedBelow column b (get_or column b 0))
  more_forks f = by (ℕ_discrete f.second b)
    where
      by : Dec (f.second ≡ b) → Forks b column ⊎ ((get_or column b 0 < b) × LedBelow column b (get_or column b 0))
      by (yes e) =
          let s = subst (Leads column f.from) e f.to_second in
          inr (omega (arith, s.is, s.falls), subst (LedBelow column b) (sym s.is) (record { to = f.first; low = omega (arith, f.apart, e); is = f.to_first }))
      by (no ne) =
          inl (record { from = f.from; first = f.first; second = f.second; apart = f.apart; low = omega (arith, f.low); to_first = f.to_first; to_second = f.to_second })

-- the numbers that the column leads from to numbers below b, to one of them each
pub record SeenBelow (column : List ℕ) (b : ℕ) (seen : Set 4) : Type 0 where
  pub has : Is seen (LedBelow column b)
  pub single : ¬ Forks b column

module _ {column : List ℕ} where
  pub seen_none : {seen : Set 4} → Is seen (λ _. ⊥) → SeenBelow column 0 seen
  seen_none i = record {
    has = is_iff (λ v x. absurd x) (λ v x. absurd (omega (arith, x.low))) i;
    single = λ f. omega (arith, f.low);
  }

  module _ {b : ℕ} {seen : Set 4} (s : SeenBelow column b seen) where
    -- b leads to a number that was not seen
    pub seen_more :
        {seen' : Set 4} → get_or column b 0 < b → ¬ In seen (get_or column b 0) → Is seen' (λ x. In seen x ⊎ (x ≡ get_or column b 0))
        → SeenBelow column (b + 1) seen'
    seen_more l new i = record {
      has =
          is_iff
          (λ v. ⊎_elim (λ x. led_more (s.has.only v x)) (λ e. record { to = b; low = omega arith; is = record { is = sym e; falls = omega (arith, e, l) } }))
          (λ v x. ⊎_elim (λ y. inl (s.has.all v y)) (λ y. inr (sym y.is)) (more_led x)) i;
      single = λ f. ⊎_elim s.single (λ z. new (s.has.all (get_or column b 0) z.1)) (more_forks f);
    }

    -- it leads to none
    pub seen_same : b ≤ get_or column b 0 → SeenBelow column (b + 1) seen
    seen_same l = record {
      has = is_iff (λ v. led_more) (λ v x. ⊎_elim (λ y. y) (λ y. absurd (omega (arith, l, y.is, y.falls))) (more_led x)) s.has;
      single = λ f. ⊎_elim s.single (λ z. omega (arith, l, z.0)) (more_forks f);
    }

    -- to one that was seen
    pub seen_forks : {n : ℕ} → b < n → get_or column b 0 < b → In seen (get_or column b 0) → Forks n column
    seen_forks {n} low l i =
        let x = s.has.only (get_or column b 0) i in
        record { from = get_or column b 0; first = x.to; second = b; apart = x.low; low = low; to_first = x.is; to_second = record { is = refl; falls = l } }

    -- none below n was left out
    pub seen_all : {n : ℕ} → n ≤ b → ¬ Forks n column
    seen_all l f = s.single (record { from = f.from; first = f.first; second = f.second; apart = f.apart; low = omega (arith, f.low, l); to_first = f.to_first; to_second = f.to_second })

-- The sources that were taken from so far, by one each.
use mathlib.Core.Path.{◌≡◌, sym, subst}
use mathlib.Core.List.{List}
use mathlib.Core.Logic.{◌⊎◌, ⊎_elim, ⊎_map}
use Prim.Native.Nat.{ℕ, ◌+◌, ◌<◌}
use native.Mathlib.Omega.{arith}
use lib.ListN.{get_or}
use Rattle.rows.specs.declared.set.Set.{Set}
use Rattle.rows.specs.Sets.{In, Is}
use Rattle.rows.proofs.Sets.{is_iff}
use Rattle.pairs.specs.Tokens.{Taken, TakenTwice}
use Rattle.pairs.proofs.Taking.{taken_up, taken_down}

-- b takes from what the column gives it
abbrev pub Takes : List ℕ → List ℕ → ℕ → Type 0
Takes kind source b = (get_or kind b 0 ≡ 3) × (get_or source b 0 < b)

-- a number below b took from s
pub record TakenFrom (kind source : List ℕ) (b s : ℕ) : Type 0 where
  pub taker : ℕ
  pub takes : Taken b kind source taker s

module _ {kind source : List ℕ} {b : ℕ} where
  from_up : {s : ℕ} → TakenFrom kind source b s → TakenFrom kind source (b + 1) s
  from_up x = record { taker = x.taker; takes = taken_up _ _ x.takes }

  from_here : {s : ℕ} → Takes kind source b → s ≡ get_or source b 0 → TakenFrom kind source (b + 1) s
  from_here t e = record {
    taker = b;
    takes = record { low = omega arith; takes = t.0; from = record { is = sym e; falls = omega (arith, e, t.1) } };
  }

  -- b took from s only where it takes, and from its own source
  own : {p s : ℕ} → Taken (b + 1) kind source p s → p ≡ b → Takes kind source b × (s ≡ get_or source b 0)
  own {p} {s} x e =
      let t = subst (λ (z : ℕ). Taken (b + 1) kind source z s) e x in
      ((t.takes, omega (arith, t.from.is, t.from.falls)), sym t.from.is)

  from_down : {s : ℕ} → TakenFrom kind source (b + 1) s → TakenFrom kind source b s ⊎ (Takes kind source b × (s ≡ get_or source b 0))
  from_down x = ⊎_map (λ t. record { taker = x.taker; takes = t }) (own x.takes) (taken_down _ _ x.takes)

  -- two below b, or b itself is the second
  twice_down : TakenTwice (b + 1) kind source → TakenTwice b kind source ⊎ (Takes kind source b × TakenFrom kind source b (get_or source b 0))
  twice_down x = ⊎_map (λ t. record { s = x.s; p = x.p; q = x.q; in_order = x.in_order; by_p = first t.low; by_q = t })
      (λ e. let o = own x.by_q e in (o.0, subst (TakenFrom kind source b) o.1 (record { taker = x.p; takes = first' e }))) (taken_down _ _ x.by_q)
    where
      first : x.q < b → Taken b kind source x.p x.s
      first l = record { low = omega (arith, l, x.in_order); takes = x.by_p.takes; from = x.by_p.from }

      first' : x.q ≡ b → Taken b kind source x.p x.s
      first' e = record { low = omega (arith, e, x.in_order); takes = x.by_p.takes; from = x.by_p.from }

-- the set has the sources that numbers below b took from, one each
pub record SeenBelow (kind source : List ℕ) (b : ℕ) (seen : Set 4) : Type 0 where
  pub holds : Is seen (TakenFrom kind source b)
  pub single : ¬ TakenTwice b kind source

module _ {kind source : List ℕ} where
  module _ {b : ℕ} {seen : Set 4} (i : SeenBelow kind source b seen) where
    -- b takes from one that was not seen
    pub seen_more :
        {seen' : Set 4} → Takes kind source b → ¬ In seen (get_or source b 0) → Is seen' (λ x. In seen x ⊎ (x ≡ get_or source b 0))
        → SeenBelow kind source (b + 1) seen'
    seen_more t new r = record {
      holds = is_iff (λ a. ⊎_elim (λ o. from_up (i.holds.only a o)) (from_here t)) (λ a x. ⊎_map (i.holds.all a) (λ z. z.1) (from_down x)) r;
      single = λ x. ⊎_elim i.single (λ z. new (i.holds.all _ z.1)) (twice_down x);
    }

    -- it takes from none
    pub seen_same : ¬ Takes kind source b → SeenBelow kind source (b + 1) seen
    seen_same never = record {
      holds = is_iff (λ a. from_up) (λ a x. ⊎_elim (λ y. y) (λ z. absurd (never z.0)) (from_down x)) i.holds;
      single = λ x. ⊎_elim i.single (λ z. never z.0) (twice_down x);
    }

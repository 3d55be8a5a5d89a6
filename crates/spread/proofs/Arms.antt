-- What stands under numbers and their arms, as it is handed up number by number.
use mathlib.Core.Path.{◌≡◌, subst}
use mathlib.Core.List.{List}
use mathlib.Core.Logic.{◌⊎◌, inl, inr}
use Prim.Native.Nat.{ℕ, ◌+◌, ◌≤◌, ◌<◌}
use native.Mathlib.Omega.{arith}
use native.Mathlib.Decide.{ℕ_discrete}
use Rattle.laws.specs.Steps.{Rel}
use Rattle.rows.specs.declared.set.Set.{Set}
use Rattle.rows.specs.Sets.{In, Is}
use Rattle.rows.specs.Rows.{On, Holds, MadeRow, Made}
use Rattle.rows.specs.Steps.{Leads, Star, Star.here, Star.on, Then}
use Rattle.rows.proofs.Sets.{is_iff, either_of}
use Rattle.rows.proofs.Rows.{made_row_is, made_again, made_iff}
use Rattle.rows.proofs.Steps.{plus_first, star_before, star_rises}
use Rattle.spread.specs.Apart.{BesideBy, Under, UnderArms}
use Rattle.spread.specs.Handed.{HandedUp, HandedUp.was, HandedUp.handed, UnderFrom, UnderFrom.whole, UnderFrom.of_child, ArmsFrom}

module _ {n : ℕ} {parent : List ℕ} {X : Rel} {a b : ℕ} where
  pub under_low : Under n parent X a b → b < n
  under_low u = omega (arith, u.low, star_rises (λ _ _ l. l.falls) u.below)

  -- a child has it under it
  under_child : {c : ℕ} → Leads parent b c → Under n parent X a c → Under n parent X a b
  under_child l u = record { at = u.at; low = u.low; related = u.related; below = star_before l u.below }

  -- at b itself, or under a child
  from_children : b < n → UnderFrom n parent (b + 1) X a b ⊎ X a b → Under n parent X a b
  from_children low (inl (whole h u)) = u
  from_children low (inl (of_child c h l u)) = under_child l u
  from_children low (inr x) = record { at = b; low = low; related = x; below = here }

  under_own : UnderFrom n parent b X a b → Under n parent X a b
  under_own (whole h u) = u
  under_own (of_child c h l u) = under_child l u

  by_children : Under n parent X a b → UnderFrom n parent (b + 1) X a b ⊎ X a b
  by_children u = by u.at u.low u.related u.below
    where
      by : (v : ℕ) → v < n → X a v → Star (Leads parent) b v → UnderFrom n parent (b + 1) X a b ⊎ X a b
      by v low x here = inr x
      by v low x (on p) =
          let t = plus_first p in
          inl (of_child t.mid (omega (arith, t.first.falls)) t.first (record { at = v; low = low; related = x; below = t.next }))

-- none has handed up yet, or all have
module _ {n : ℕ} {parent : List ℕ} {X : Rel} {a p : ℕ} where
  pub under_none : {lo : ℕ} → n ≤ lo → ¬ UnderFrom n parent lo X a p
  under_none l (whole h u) = omega (arith, under_low u)
  under_none l (of_child c h s u) = omega (arith, under_low u)

  pub all_under : UnderFrom n parent 0 X a p → Under n parent X a p
  all_under (whole h u) = u
  all_under (of_child c h s u) = under_child s u

  pub under_all : Under n parent X a p → UnderFrom n parent 0 X a p
  under_all u = whole (omega arith) u

  module _ {arm : List ℕ} where
    pub arms_none : {lo : ℕ} → n ≤ lo → ¬ ArmsFrom n parent lo arm X a p
    arms_none l f = omega (arith, f.high, f.among.low)

    pub arms_all : UnderArms n parent arm X a p → ArmsFrom n parent 0 arm X a p
    arms_all u = record { among = u; high = omega arith }

-- b hands up: the row that a column leads to b from has what stands under b too, and b's own row is complete
module _ {n : ℕ} {parent : List ℕ} {X : Rel} {a b p : ℕ} where
  under_more : UnderFrom n parent (b + 1) X a p ⊎ (Leads parent p b × Under n parent X a b) → UnderFrom n parent b X a p
  under_more (inl (whole h u)) = whole (omega arith) u
  under_more (inl (of_child c h l u)) = of_child c (omega arith) l u
  under_more (inr (l, u)) = of_child b (omega arith) l u

  more_under : ¬ (p ≡ b) → UnderFrom n parent b X a p → UnderFrom n parent (b + 1) X a p ⊎ (Leads parent p b × Under n parent X a b)
  more_under ne (whole h u) = inl (whole (omega (arith, ne)) u)
  more_under ne (of_child c h l u) = by (ℕ_discrete c b)
    where
      by : Dec (c ≡ b) → UnderFrom n parent (b + 1) X a p ⊎ (Leads parent p b × Under n parent X a b)
      by (yes e) = inr (subst (Leads parent p) e l, subst (Under n parent X a) e u)
      by (no n) = inl (of_child c (omega arith) l u)

  module _ {arm : List ℕ} where
    arms_more : b < n → ArmsFrom n parent (b + 1) arm X a p ⊎ (Leads arm p b × Under n parent X a b) → ArmsFrom n parent b arm X a p
    arms_more low (inl f) = record { among = f.among; high = omega (arith, f.high) }
    arms_more low (inr (l, u)) = record { among = record { of = b; low = low; is = l; under = u }; high = omega arith }

    more_arms : ArmsFrom n parent b arm X a p → ArmsFrom n parent (b + 1) arm X a p ⊎ (Leads arm p b × Under n parent X a b)
    more_arms f = by (ℕ_discrete f.among.of b)
      where
        by : Dec (f.among.of ≡ b) → ArmsFrom n parent (b + 1) arm X a p ⊎ (Leads arm p b × Under n parent X a b)
        by (yes e) = inr (subst (Leads arm p) e f.among.is, subst (Under n parent X a) e f.among.under)
        by (no ne) = inl (record { among = f.among; high = omega (arith, f.high) })

-- rows of which one took in a set that is known
handed_of :
    {w n b : ℕ} {column : List ℕ} {m m' : List (List ℕ)} {s : Set w} {P : ℕ → Type 0} {R : Rel} → Is s P → Holds w n R m
    → Made w n (HandedUp w column m b s) m m' → Made w n (λ a p. R a p ⊎ (Leads column p b × P a)) m m'
handed_of {w} {n} {b} {column} {m} {m'} {s} {P} {R} i h = made_iff to from
  where
    to : (a p : ℕ) → p < n → HandedUp w column m b s a p → R a p ⊎ (Leads column p b × P a)
    to a p k (was o) = inl (h.only a p k o)
    to a p k (handed l x) = inr (l, i.only a x)

    from : (a p : ℕ) → p < n → R a p ⊎ (Leads column p b × P a) → HandedUp w column m b s a p
    from a p k (inl r) = was (h.all a p k r)
    from a p k (inr (l, q)) = handed l (i.all a q)

module _ {w n b : ℕ} {parent : List ℕ} {x : List (List ℕ)} (low : b < n) where
  -- what x relates to b and what its children handed up is all that stands under it
  pub all_under_row :
      {r s t : Set w} {below : List (List ℕ)} → Holds w n (UnderFrom n parent (b + 1) (On w x)) below → Is r (λ a. On w below a b) → Is s (λ a. On w x a b)
      → Is t (λ a. In r a ⊎ In s a) → Is t (λ a. Under n parent (On w x) a b)
  all_under_row h r s t =
      is_iff (λ a. from_children low) (λ a. by_children) (either_of (is_iff (λ a. h.only a b low) (λ a. h.all a b low) r) s t)

  module _ {t : Set w} (i : Is t (λ a. Under n parent (On w x) a b)) where
    pub below_handed :
        {below below₁ below₂ : List (List ℕ)} → Holds w n (UnderFrom n parent (b + 1) (On w x)) below → Made w n (HandedUp w parent below b t) below below₁
        → MadeRow w b (In t) below₁ below₂ → Made w n (UnderFrom n parent b (On w x)) below below₂
    below_handed h k r =
        made_again b low (λ a p ne. under_more) (λ a p. more_under) (handed_of i h k)
        (made_row_is (is_iff (λ a. whole (omega arith)) (λ a. under_own) i) r)

    pub arms_handed :
        {arm : List ℕ} {arms arms' : List (List ℕ)} → Holds w n (ArmsFrom n parent (b + 1) arm (On w x)) arms → Made w n (HandedUp w arm arms b t) arms arms'
        → Made w n (ArmsFrom n parent b arm (On w x)) arms arms'
    arms_handed h k = made_iff (λ a p l. arms_more low) (λ a p l. more_arms) (handed_of i h k)

-- what stands beside by two matrices, by what those hold
module _ {w n : ℕ} {parent arm : List ℕ} {below arms out out' : List (List ℕ)} {U A : Rel} (h : Holds w n U below) (k : Holds w n A arms) where
  pub beside_of :
      Made w n (Then (BesideBy arm (On w below) (On w arms)) (Star (Leads parent))) out out'
      → Made w n (Then (BesideBy arm U A) (Star (Leads parent))) out out'
  beside_of = made_iff (λ a b l t. record { mid = t.mid; first = to (low l t) t.first; next = t.next })
      (λ a b l t. record { mid = t.mid; first = from (low l t) t.first; next = t.next })
    where
      low : {R : Rel} {a b : ℕ} → b < n → (t : Then R (Star (Leads parent)) a b) → t.mid < n
      low l t = omega (arith, l, star_rises (λ _ _ s. s.falls) t.next)

      to : {a b : ℕ} → b < n → BesideBy arm (On w below) (On w arms) a b → BesideBy arm U A a b
      to {a} {b} l s = record {
        from = s.from;
        is = s.is;
        among = k.only a s.from (omega (arith, l, s.is.falls)) s.among;
        not_under = λ u. s.not_under (h.all a b l u);
      }

      from : {a b : ℕ} → b < n → BesideBy arm U A a b → BesideBy arm (On w below) (On w arms) a b
      from {a} {b} l s = record {
        from = s.from;
        is = s.is;
        among = k.all a s.from (omega (arith, l, s.is.falls)) s.among;
        not_under = λ o. s.not_under (h.only a b l o);
      }

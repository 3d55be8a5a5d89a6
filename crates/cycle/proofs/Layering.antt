-- Layers: what has a step to the last layer and was not met before is the next one; where a layer is empty, all is met.
use mathlib.Core.Path.{◌≡◌, refl, subst}
use mathlib.Core.List.{List, [], ◌∷◌}
use mathlib.Core.Logic.{◌⊎◌, inl, inr, ⊎_elim}
use Prim.Native.Nat.{ℕ, ◌+◌, ◌≤◌, ◌<◌}
use native.Mathlib.Omega.{arith}
use native.Mathlib.Decide.{ℕ_discrete}
use lib.ListN.{length}
use Rattle.laws.specs.Steps.{Rel, Walk}
use Rattle.laws.proofs.Closure.{tri}
use Rattle.rows.specs.declared.set.Set.{Set}
use Rattle.rows.specs.Sets.{In, Is}
use Rattle.rows.specs.Rows.{On, MadeRow}
use Rattle.rows.proofs.Along.{Gap, gap_low}
use Rattle.rows.proofs.Rows.{made_row_iff, holds_more}
use Rattle.rows.proofs.Sets.{in_dec, is_iff, either_of}
use Rattle.cycle.specs.Distances.{Reaches}
use Rattle.cycle.specs.Rounds.{Step, Enters, Fewest, Upto, Layers, Back}

-- ---- what has a step to a number of a row

-- to one of those before c
pub record EntersBelow (w n : ℕ) (m layers : List (List ℕ)) (e c a : ℕ) : Type 0 where
  pub enters : Enters w n m layers e a
  pub below : enters.to < c

module _ {w n e : ℕ} {m layers : List (List ℕ)} where
  -- none of the row's numbers is between
  pub enters_next : {x : Set w} {at c : ℕ} → Gap w layers e at c → Is x (EntersBelow w n m layers e at) → Is x (EntersBelow w n m layers e c)
  enters_next gap =
      is_iff (λ a t. record { enters = t.enters; below = omega (arith, t.below, gap.from) })
      (λ a t. record { enters = t.enters; below = gap_low gap t.enters.to t.below t.enters.on })

  pub enters_more :
      {x y z : Set w} {c : ℕ} → c < n → On w layers c e → Is y (λ a. On w m a c) → Is z (λ a. In x a ⊎ In y a)
      → Is x (EntersBelow w n m layers e c) → Is z (EntersBelow w n m layers e (c + 1))
  enters_more {c = c} l o j k i = is_iff (λ a. ⊎_elim (old a) (new a)) from (either_of i j k)
    where
      old : (a : ℕ) → EntersBelow w n m layers e c a → EntersBelow w n m layers e (c + 1) a
      old a t = record { enters = t.enters; below = omega (arith, t.below) }

      new : (a : ℕ) → On w m a c → EntersBelow w n m layers e (c + 1) a
      new a h = record { enters = record { to = c; step = record { row = l; on = h }; on = o }; below = omega arith }

      from : (a : ℕ) → EntersBelow w n m layers e (c + 1) a → EntersBelow w n m layers e c a ⊎ On w m a c
      from a t =
          tri {C = EntersBelow w n m layers e c a ⊎ On w m a c} t.enters.to c (λ h. inl (record { enters = t.enters; below = h }))
          (λ q. inr (subst (On w m a) q t.enters.step.on)) (λ h. absurd (omega (arith, h, t.below)))

  pub enters_all : {x : Set w} {c : ℕ} → n ≤ c → Is x (EntersBelow w n m layers e c) → Is x (Enters w n m layers e)
  enters_all h = is_iff (λ a t. t.enters) (λ a t. record { enters = t; below = omega (arith, t.step.row) })

-- ---- the fewest steps to s

module _ {R : Rel} {s : ℕ} where
  pub reach_one : {a : ℕ} → R a s → Reaches R a s 1
  reach_one r = record { by = []; walk = r; long = refl }

  reach_on : {a c k : ℕ} → R a c → Reaches R c s k → Reaches R a s (k + 1)
  reach_on {c = c} r z = record { by = c ∷ z.by; walk = (r, z.walk); long = omega (arith, z.long) }

  -- the first step of two or more
  reach_next : {a : ℕ} (k : ℕ) → Reaches R a s (k + 1 + 1) → (c : ℕ) × (R a c × Reaches R c s (k + 1))
  reach_next {a} k z = by z.by z.walk z.long
    where
      by : (xs : List ℕ) → Walk R a xs s → length xs + 1 ≡ k + 1 + 1 → (c : ℕ) × (R a c × Reaches R c s (k + 1))
      by [] v e = absurd (omega arith)
      by (c ∷ xs) v e = (c, (v.0, record { by = xs; walk = v.1; long = omega arith }))

  pub last_reach : {a : ℕ} → Reaches R a s 1 → R a s
  last_reach {a} z = by z.by z.walk z.long
    where
      by : (xs : List ℕ) → Walk R a xs s → length xs + 1 ≡ 1 → R a s
      by [] v e = v
      by (c ∷ xs) v e = absurd (omega arith)

  fewest_one : {a : ℕ} → R a s → Fewest R s 1 a
  fewest_one r = record { reach = reach_one r; none = λ i l z. omega (arith, z.long) }

  -- where the fewest steps are k + 1, a step to what is k steps away leads to what is no less away
  pub fewest_on : {a c k : ℕ} → Fewest R s (k + 1) a → R a c → Reaches R c s k → Fewest R s k c
  fewest_on f r z = record { reach = z; none = λ i l y. f.none (i + 1) (omega arith) (reach_on r y) }

  pub fewest_next : {a : ℕ} (k : ℕ) → Fewest R s (k + 1 + 1) a → (c : ℕ) × (R a c × Fewest R s (k + 1) c)
  fewest_next k f = let (c, (r, z)) = reach_next k f.reach in (c, (r, fewest_on f r z))

  fewest_more : {a c k : ℕ} → R a c → Fewest R s k c → ¬ Upto R s k a → Fewest R s (k + 1) a
  fewest_more r f n = record { reach = reach_on r f.reach; none = λ i l z. n (record { steps = i; few = omega arith; reach = z }) }

  fewest_past : {a k : ℕ} → Fewest R s (k + 1) a → ¬ Upto R s k a
  fewest_past f u = f.none u.steps (omega (arith, u.few)) u.reach

  -- ---- up to so many steps

  more_upto : {a k : ℕ} → Upto R s k a ⊎ Fewest R s (k + 1) a → Upto R s (k + 1) a
  more_upto (inl u) = record { steps = u.steps; few = omega (arith, u.few); reach = u.reach }
  more_upto {k = k} (inr f) = record { steps = k + 1; few = omega arith; reach = f.reach }

  upto_more : {a k : ℕ} → Dec (Upto R s k a) → Upto R s (k + 1) a → Upto R s k a ⊎ Fewest R s (k + 1) a
  upto_more (yes u) v = inl u
  upto_more {a} {k} (no n) v = by v.steps v.few v.reach (ℕ_discrete v.steps (k + 1))
    where
      by : (i : ℕ) → i ≤ k + 1 → Reaches R a s i → Dec (i ≡ k + 1) → Upto R s k a ⊎ Fewest R s (k + 1) a
      by i l z (yes e) =
          inr (record { reach = subst (Reaches R a s) e z; none = λ j h y. n (record { steps = j; few = omega arith; reach = y }) })
      by i l z (no ne) = inl (record { steps = i; few = omega arith; reach = z })

  -- where nothing is k + 1 steps away, what leads to s at all does so in k
  all_upto : {k : ℕ} → ((a : ℕ) → Dec (Upto R s k a)) → ((a : ℕ) → ¬ Fewest R s (k + 1) a) → (a : ℕ) (xs : List ℕ) → Walk R a xs s → Upto R s k a
  all_upto {k} d n a [] v = ⊎_elim (λ u. u) (λ f. absurd (n a f)) (upto_more (d a) (record { steps = 1; few = omega arith; reach = reach_one v }))
  all_upto {k} d n a (x ∷ xs) v =
      let u = all_upto d n x xs v.1 in
      ⊎_elim (λ u. u) (λ f. absurd (n a f)) (upto_more (d a) (record { steps = u.steps + 1; few = omega (arith, u.few); reach = reach_on v.0 u.reach }))

  -- ---- rows and sets of them

  met_dec : {W k : ℕ} {x : Set W} → Is x (Upto R s k) → (a : ℕ) → Dec (Upto R s k a)
  met_dec {k = k} {x = x} i a = by (in_dec x a)
    where
      by : Dec (In x a) → Dec (Upto R s k a)
      by (yes h) = yes (i.only a h)
      by (no h) = no (λ u. h (i.all a u))

  module _ {w e : ℕ} {layers : List (List ℕ)} (made : Layers R w s (e + 1) layers) where
    last_layer : (a : ℕ) → On w layers a e → Fewest R s (e + 1) a
    last_layer a = made.only a e (omega arith)

    -- what was met, with the last layer
    pub met_more : {x y z : Set w} → Is x (Upto R s e) → Is y (λ a. On w layers a e) → Is z (λ a. In x a ⊎ In y a) → Is z (Upto R s (e + 1))
    met_more {x} {y} i j = is_iff (λ a. ⊎_elim (λ h. more_upto (inl (i.only a h))) (λ h. more_upto (inr (last_layer a (j.only a h)))))
        (λ a u. ⊎_elim {C = In x a ⊎ In y a} (λ h. inl (i.all a h)) (λ f. inr (j.all a (made.all a e (omega arith) f))) (upto_more (met_dec i a) u))

    module _ (none : (k : ℕ) → k ≤ e → ¬ Reaches R s s k) where
      pub back_found : {bound : ℕ} → e + 1 < bound → On w layers s e → Back R w s bound (e + 1) layers
      back_found l o = record {
        high = omega arith;
        reach = λ h. (last_layer s o).reach;
        few = λ k z. tri k (e + 1) (λ h. absurd (none k (omega arith) z)) (λ q. omega arith) (λ h. omega arith);
        made = λ h. made;
      }

      pub none_more : ¬ On w layers s e → (k : ℕ) → k ≤ e + 1 → ¬ Reaches R s s k
      none_more n k l z = tri k (e + 1) (λ h. none k (omega arith) z)
          (λ q. n (made.all s e (omega arith) (record { reach = subst (Reaches R s s) q z; none = λ i h. none i (omega arith) }))) (λ h. omega arith)

      pub back_past : {bound : ℕ} → bound ≤ e + 1 → Back R w s bound bound layers
      back_past l = record {
        high = omega arith;
        reach = λ h. absurd (omega arith);
        few = λ k z. tri k (e + 1) (λ h. absurd (none k (omega arith) z)) (λ q. omega arith) (λ h. omega arith);
        made = λ h. absurd (omega arith);
      }

      pub back_empty : {bound : ℕ} {x y : Set w} → Is x (Upto R s e) → Is y (λ a. On w layers a e) → ((a : ℕ) → ¬ In y a) → Back R w s bound bound layers
      back_empty i j empty = record {
        high = omega arith;
        reach = λ h. absurd (omega arith);
        few = λ k z. absurd (never z);
        made = λ h. absurd (omega arith);
      }
        where
          never : {k : ℕ} → ¬ Reaches R s s k
          never z =
              let u = all_upto (met_dec i) (λ a f. empty a (j.all a (made.all a e (omega arith) f))) s z.by z.walk in
              none u.steps u.few u.reach

-- ---- steps between numbers that are alive

module _ {w n : ℕ} {m alive : List (List ℕ)} where
  pub reach_alive : {s a k : ℕ} → Reaches (Step w n m alive) a s k → On w alive a 0
  reach_alive {s} {a} z = by z.by z.walk
    where
      by : (xs : List ℕ) → Walk (Step w n m alive) a xs s → On w alive a 0
      by [] v = v.left
      by (x ∷ xs) v = v.0.left

  pub layers_more :
      {s e : ℕ} {x : Set w} {before layers : List (List ℕ)} → Is x (λ a. (Enters w n m before e a × On w alive a 0) × (¬ Upto (Step w n m alive) s (e + 1) a))
      → MadeRow w (e + 1) (In x) before layers → Layers (Step w n m alive) w s (e + 1) before → Layers (Step w n m alive) w s (e + 1 + 1) layers
  layers_more {s} {e} {x} {before} i d made = holds_more made (made_row_iff (λ a z. to a (i.only a z)) from d)
    where
      to : (a : ℕ) → (Enters w n m before e a × On w alive a 0) × (¬ Upto (Step w n m alive) s (e + 1) a) → Fewest (Step w n m alive) s (e + 1 + 1) a
      to a ((t, o), new) =
          let f = made.only t.to e (omega arith) t.on in
          fewest_more (record { left = o; right = reach_alive f.reach; cell = t.step }) f new

      from : (a : ℕ) → Fewest (Step w n m alive) s (e + 1 + 1) a → In x a
      from a f =
          let (c, (r, g)) = fewest_next e f in
          i.all a ((record { to = c; step = r.cell; on = made.all c e (omega arith) g }, r.left), fewest_past f)

-- Rows of bytes and layers of entries, for any relation on the numbers below n.
use mathlib.Core.Path.{◌≡◌, sym, subst, ap, ◌∙◌}
use mathlib.Core.Bool.{Bool, false}
use mathlib.Core.List.{List, [], ◌∷◌}
use mathlib.Core.Logic.{◌⊎◌, inl, inr, ⊎_elim}
use Prim.Native.Nat.{ℕ, ◌+◌, ◌<◌, ◌≤◌}
use native.Mathlib.Omega.{arith}
use native.Mathlib.Decide.{ℕ_discrete, dec_lt}
use lib.ListN.{length, get_or, set, length-set}
use lib.Seq.{get_or-set_same, get_or-set_other}
use Rattle.laws.specs.Says.{Says}
use Rattle.laws.proofs.Says.{said, denied}
use Rattle.laws.specs.Steps.{Rel, Walk}
use Rattle.laws.proofs.Closure.{tri}
use Rattle.laws.proofs.Steps.{Within}
use Rattle.laws.proofs.Walks.{walk_starts}
use Rattle.cycle.specs.Distances.{Reaches}
use Rattle.limits.specs.Limit.{limit}
use Rattle.tracing.specs.Layers.{entry, Column, Blank, Nearer, Spread, StepsTo, Layer}

-- ---- a column made

-- one record more is asked, and the column stays as long
pub column_more :
    (R : Rel) (y : ℕ) {x : ℕ} (col : List Bool) {b : Bool} → x < limit → Says b (R x y) → (length col ≡ limit) × Column R x y col
    → (length (set col x b) ≡ limit) × Column R (x + 1) y (set col x b)
column_more R y {x} col {b} room asked (long, before) = (length-set col x b ∙ long, λ v l. by v l (ℕ_discrete v x))
  where
    by : (v : ℕ) → v < x + 1 → Dec (v ≡ x) → Says (get_or (set col x b) v false) (R v y)
    by v l (yes e) =
        subst (λ (k : ℕ). Says (get_or (set col x b) k false) (R k y)) (sym e)
        (subst (λ (s : Bool). Says s (R x y)) (sym (get_or-set_same col x b false (omega (arith, long)))) asked)
    by v l (no ne) = subst (λ (s : Bool). Says s (R v y)) (sym (get_or-set_other col x v b false ne)) (before v (omega arith))

-- ---- one column spread

-- an entry after it: as before, or k where there was none and there is a step
data Grown (P : Type 0) (k d e : ℕ) : Type 0 where
  new : d ≡ 255 → P → e ≡ k → Grown P k d e
  same : e ≡ d → Grown P k d e

module _ {P : ℕ → Type 0} {n k : ℕ} {col : List Bool} {d e : List ℕ} (f : (x : ℕ) → x < n → Says (get_or col x false) (P x)) (p : Spread n k col d e) where
  grown : (x : ℕ) → x < n → Grown (P x) k (entry d x) (entry e x)
  grown x l =
      elim (p.at x l) [ Nearer.reached h c r ↦ new h (said (f x l) c) r | Nearer.had h r ↦ same r | Nearer.no_step c r ↦ same r ]

  -- whatever has a step has an entry
  grown_step : (x : ℕ) → x < n → P x → (entry e x ≡ k) ⊎ (¬ (entry d x ≡ 255) × (entry e x ≡ entry d x))
  grown_step x l q =
      elim (p.at x l) [ Nearer.reached h c r ↦ inl r | Nearer.had h r ↦ inr (h, r) | Nearer.no_step c r ↦ absurd (denied (f x l) c q) ]

module _ {R : Rel} {n : ℕ} (on : Within n R) where
  one_more : {x v s j : ℕ} → R x v → Reaches R v s j → Reaches R x s (j + 1)
  one_more {v = v} r z = record { by = v ∷ z.by; walk = (r, z.walk); long = omega (arith, z.long) }

  -- the first layer
  pub layer_first :
      {s : ℕ} {col : List Bool} {d e : List ℕ} → Blank n d → Column R n s col → Spread n 1 col d e → Layer R n s 1 0 e
  layer_first {s} {d = d} {e = e} none f p = record {
    low = λ x l. low x l (grown f p x l);
    sound = λ x l h. sound x l h (grown f p x l);
    complete = complete;
    asked = λ x v l. absurd (omega arith);
  }
    where
      low : (x : ℕ) → x < n → Grown (R x s) 1 (entry d x) (entry e x) → (entry e x ≤ 2) ⊎ (entry e x ≡ 255)
      low x l (new h r q) = inl (omega arith)
      low x l (same q) = inr (q ∙ none x l)

      sound : (x : ℕ) → x < n → entry e x < 255 → Grown (R x s) 1 (entry d x) (entry e x) → Reaches R x s (entry e x)
      sound x l h (new g r q) = record { by = []; walk = r; long = sym q }
      sound x l h (same q) = absurd (omega (arith, none x l))

      complete : (x : ℕ) (xs : List ℕ) → Walk R x xs s → length xs + 1 ≤ 1 → entry e x ≤ length xs + 1
      complete x [] w h =
          ⊎_elim (λ q. omega arith) (λ y. absurd (y.0 (none x (on.left w)))) (grown_step f p x (on.left w) w)
      complete x (y ∷ ys) w h = absurd (omega arith)

  -- one record more of layer k
  pub layer_asked :
      {s k y : ℕ} {col : List Bool} {d e : List ℕ} → k < 254 → y < n → entry d y ≡ k → Column R n y col → Spread n (k + 1) col d e → Layer R n s k y d
      → Layer R n s k (y + 1) e
  layer_asked {s} {k} {y} {d = d} {e = e} small hy at f p a = record {
    low = λ x l. low x l (grown f p x l);
    sound = λ x l h. sound x l h (grown f p x l);
    complete = λ x xs w h. let l = walk_starts R on x xs s w in complete x xs w h (grown f p x l);
    asked = λ x v l q r. asked x v l q r (on.left r) (on.right r) (ℕ_discrete v y);
  }
    where
      low : (x : ℕ) → x < n → Grown (R x y) (k + 1) (entry d x) (entry e x) → (entry e x ≤ k + 1) ⊎ (entry e x ≡ 255)
      low x l (new h r q) = inl (omega arith)
      low x l (same q) = ⊎_elim (λ h. inl (omega arith)) (λ h. inr (q ∙ h)) (a.low x l)

      sound : (x : ℕ) → x < n → entry e x < 255 → Grown (R x y) (k + 1) (entry d x) (entry e x) → Reaches R x s (entry e x)
      sound x l h (new g r q) = rw (q ∙ ap (λ (j : ℕ). j + 1) (sym at)) (one_more r (a.sound y hy (omega arith)))
      sound x l h (same q) = rw q (a.sound x l (omega arith))

      complete :
          (x : ℕ) (xs : List ℕ) → Walk R x xs s → length xs + 1 ≤ k → Grown (R x y) (k + 1) (entry d x) (entry e x) → entry e x ≤ length xs + 1
      complete x xs w h (new g r q) = absurd (omega (arith, a.complete x xs w h))
      complete x xs w h (same q) = omega (arith, a.complete x xs w h)

      -- an entry k was there before
      was : (v : ℕ) → entry e v ≡ k → Grown (R v y) (k + 1) (entry d v) (entry e v) → entry d v ≡ k
      was v q (new g r h) = absurd (omega arith)
      was v q (same h) = sym h ∙ q

      kept : (x : ℕ) → entry d x ≤ k + 1 → Grown (R x y) (k + 1) (entry d x) (entry e x) → entry e x ≤ k + 1
      kept x h (new g r q) = omega arith
      kept x h (same q) = omega arith

      asked : (x v : ℕ) → v < y + 1 → entry e v ≡ k → R x v → x < n → v < n → Dec (v ≡ y) → entry e x ≤ k + 1
      asked x v l q r hx hv (no ne) = kept x (a.asked x v (omega arith) (was v q (grown f p v hv)) r) (grown f p x hx)
      asked x v l q r hx hv (yes h) =
          ⊎_elim (λ z. omega arith) (λ (ne, z). ⊎_elim (λ m. omega arith) (λ m. absurd (ne m)) (a.low x hx))
          (grown_step f p x hx (subst (R x) h r))

  pub layer_passed : {s k y : ℕ} {d : List ℕ} → ¬ (entry d y ≡ k) → Layer R n s k y d → Layer R n s k (y + 1) d
  layer_passed {k = k} {y = y} {d = d} ne a = record {
    low = a.low;
    sound = a.sound;
    complete = a.complete;
    asked = λ x v l q r.
        tri v y (λ h. a.asked x v h q r) (λ h. absurd (ne (sym (ap (entry d) h) ∙ q))) (λ h. absurd (omega arith));
  }

  -- all of layer k: the next one is complete
  pub layer_done : {s k : ℕ} {d : List ℕ} → 0 < k → k < 254 → Layer R n s k n d → Layer R n s (k + 1) 0 d
  layer_done {s} {k} {d} some small a = record {
    low = λ x l. ⊎_elim (λ h. inl (omega arith)) inr (a.low x l);
    sound = a.sound;
    complete = complete;
    asked = λ x v l. absurd (omega arith);
  }
    where
      by_next :
          (x y : ℕ) (ys : List ℕ) → R x y → Walk R y ys s → length ys + 1 ≤ k → Dec (entry d y ≡ k) → Dec (length ys + 1 ≡ k) → entry d x ≤ length ys + 2
      by_next x y ys r w h (yes q) (yes m) = omega (arith, a.asked x y (on.right r) q r)
      by_next x y ys r w h (no q) (yes m) =
          let z = one_more r (a.sound y (on.right r) (omega (arith, a.complete y ys w h))) in
          omega (arith, a.complete y ys w h, z.long, a.complete x z.by z.walk (omega (arith, z.long, a.complete y ys w h)))
      by_next x y ys r w h dq (no m) = omega (arith, a.complete x (y ∷ ys) (r, w) (omega arith))

      complete : (x : ℕ) (xs : List ℕ) → Walk R x xs s → length xs + 1 ≤ k + 1 → entry d x ≤ length xs + 1
      complete x [] w h = a.complete x [] w (omega arith)
      complete x (y ∷ ys) w h =
          omega (arith, by_next x y ys w.0 w.1 (omega arith) (ℕ_discrete (entry d y) k) (ℕ_discrete (length ys + 1) k))

  pub layers_done : {s : ℕ} {d : List ℕ} → Layer R n s 254 0 d → StepsTo R n s d
  layers_done {s} {d} a =
      record { low = low; sound = a.sound; complete = λ x xs w. by x xs w (dec_lt 254 (length xs + 1)) }
    where
      low : (x : ℕ) → x < n → entry d x ≤ 255
      low x l = ⊎_elim (λ m. omega arith) (λ m. omega arith) (a.low x l)

      by : (x : ℕ) (xs : List ℕ) → Walk R x xs s → Dec (254 < length xs + 1) → entry d x ≤ length xs + 1
      by x xs w (yes h) = omega (arith, low x (walk_starts R on x xs s w))
      by x xs w (no h) = a.complete x xs w (omega arith)

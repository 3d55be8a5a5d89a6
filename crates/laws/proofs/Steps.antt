-- Laws of one or more steps.
use mathlib.Core.Path.{◌≡◌, refl, sym, subst}
use mathlib.Core.Logic.{◌⊎◌, inl, inr}
use Prim.Native.Nat.{ℕ, ◌<◌}
use native.Mathlib.Omega.{arith}
use Rattle.laws.specs.Steps.{Plus, one, more}

-- R relates numbers below n only
pub record Within (n : ℕ) (R : ℕ → ℕ → Type 0) : Type 0 where
  pub left : {a b : ℕ} → R a b → a < n
  pub right : {a b : ℕ} → R a b → b < n

pub plus_within : {n : ℕ} {R : ℕ → ℕ → Type 0} → Within n R → Within n (Plus R)
plus_within {n} {R} w = record { left = left; right = right }
  where
    left : {a b : ℕ} → Plus R a b → a < n
    left (one r) = w.left r
    left (more p r) = left p

    right : {a b : ℕ} → Plus R a b → b < n
    right (one r) = w.right r
    right (more p r) = w.right r

pub plus_trans : {R : ℕ → ℕ → Type 0} {a m b : ℕ} → Plus R a m → Plus R m b → Plus R a b
plus_trans p (one r) = more p r
plus_trans p (more q r) = more (plus_trans p q) r

pub plus_to : {R S : ℕ → ℕ → Type 0} → ((a b : ℕ) → R a b → S a b) → {a b : ℕ} → Plus R a b → Plus S a b
plus_to f {a} {b} (one r) = one (f a b r)
plus_to f {a} {b} (more {m = m} p r) = more (plus_to f p) (f m b r)

-- steps that lead to larger numbers, together too
pub plus_rises : {R : ℕ → ℕ → Type 0} → ((a b : ℕ) → R a b → a < b) → {a b : ℕ} → Plus R a b → a < b
plus_rises f {a} {b} (one r) = f a b r
plus_rises f {a} {b} (more {m = m} p r) =
    let x : a < m = plus_rises f p in
    let y : m < b = f m b r in
    omega arith

-- steps carried along a renumbering
pub plus_map :
    {R S : ℕ → ℕ → Type 0} (f : ℕ → ℕ) → ((a b : ℕ) → R a b → S (f a) (f b)) → {a b : ℕ} → Plus R a b → Plus S (f a) (f b)
plus_map f h {a} {b} (one r) = one (h a b r)
plus_map f h {a} {b} (more {m = m} p r) = more (plus_map f h p) (h m b r)

-- every step of S to an image under f is the image of a step of R
pub record Back (f : ℕ → ℕ) (R S : ℕ → ℕ → Type 0) (x b : ℕ) : Type 0 where
  pub a : ℕ
  pub image : f a ≡ x
  pub step : R a b

pub plus_back :
    {R S : ℕ → ℕ → Type 0} (f : ℕ → ℕ) → ((x b : ℕ) → S x (f b) → Back f R S x b) → {x b : ℕ} → Plus S x (f b) → Back f (Plus R) (Plus S) x b
plus_back {R} {S} f h {x} {b} p = go p b refl
  where
    go : {y : ℕ} → Plus S x y → (b : ℕ) → y ≡ f b → Back f (Plus R) (Plus S) x b
    go (one s) b e =
        let k = h x b (subst (S x) e s) in
        record { a = k.a; image = k.image; step = one k.step }
    go (more {m = m} p s) b e =
        let k = h m b (subst (S m) e s) in
        let q = go p k.a (sym k.image) in
        record { a = q.a; image = q.image; step = more q.step k.step }

-- the last step
pub record LastStep (R : ℕ → ℕ → Type 0) (a b : ℕ) : Type 0 where
  pub from : ℕ
  pub step : R from b
  pub rest : (a ≡ from) ⊎ Plus R a from

pub plus_last : {R : ℕ → ℕ → Type 0} {a b : ℕ} → Plus R a b → LastStep R a b
plus_last {a = a} (one r) = record { from = a; step = r; rest = inl refl }
plus_last (more {m = m} p r) = record { from = m; step = r; rest = inr p }

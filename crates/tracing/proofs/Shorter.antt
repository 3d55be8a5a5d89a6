-- One or more steps on the numbers below n are a walk of at most n + 1.
use mathlib.Core.Path.{◌≡◌, sym, subst}
use mathlib.Core.List.{List, [], ◌∷◌, ◌++◌}
use mathlib.Core.Logic.{◌⊎◌, inl, inr}
use Prim.Native.Nat.{ℕ, ◌≤◌}
use native.Mathlib.Decide.{ℕ_discrete}
use lib.ListN.{length}
use Rattle.laws.specs.Steps.{Rel, Plus, one, more, Walk, NotIn, Different}
use Rattle.laws.proofs.Steps.{Within}
use Rattle.laws.proofs.Walks.{at_most, joined, walk_below}

record By (R : Rel) (a b : ℕ) : Type 0 where
  by : List ℕ
  walk : Walk R a by b

-- a walk that comes to no record twice
record Straight (R : Rel) (a b : ℕ) : Type 0 where
  by : List ℕ
  walk : Walk R a by b
  apart : Different by

-- a walk that comes to x no more
record Past (R : Rel) (x b : ℕ) : Type 0 where
  by : List ℕ
  walk : Walk R x by b
  apart : Different by
  not_x : NotIn x by

-- a walk with at most n records on the way
pub record Short (R : Rel) (n a b : ℕ) : Type 0 where
  pub by : List ℕ
  pub walk : Walk R a by b
  pub few : length by ≤ n

module _ {R : Rel} where
  plus_walk : {a b : ℕ} → Plus R a b → By R a b
  plus_walk (one r) = record { by = []; walk = r }
  plus_walk {a} {b} (more {m = m} p r) = let z = plus_walk p in record { by = z.by ++ m ∷ []; walk = joined R a z.by m [] b z.walk r }

  -- from the last time that a walk comes to x
  cut : (x c : ℕ) (ys : List ℕ) (b : ℕ) → Walk R c ys b → Different ys → NotIn x ys ⊎ Past R x b
  cut x c [] b w d = inl tt
  cut x c (y ∷ ys) b w d = go (ℕ_discrete x y) (cut x y ys b w.1 d.1)
    where
      go : Dec (x ≡ y) → NotIn x ys ⊎ Past R x b → NotIn x (y ∷ ys) ⊎ Past R x b
      go (yes e) z =
          inr (record { by = ys; walk = subst (λ (v : ℕ). Walk R v ys b) (sym e) w.1; apart = d.1; not_x = subst (λ (v : ℕ). NotIn v ys) (sym e) d.0 })
      go (no ne) (inl z) = inl (ne, z)
      go (no ne) (inr z) = inr z

  straight : (a : ℕ) (xs : List ℕ) (b : ℕ) → Walk R a xs b → Straight R a b
  straight a [] b w = record { by = []; walk = w; apart = tt }
  straight a (x ∷ xs) b w = let z = straight x xs b w.1 in go z (cut x x z.by b z.walk z.apart)
    where
      go : (z : Straight R x b) → NotIn x z.by ⊎ Past R x b → Straight R a b
      go z (inl n) = record { by = x ∷ z.by; walk = (w.0, z.walk); apart = (n, z.apart) }
      go z (inr p) = record { by = x ∷ p.by; walk = (w.0, p.walk); apart = (p.not_x, p.apart) }

  pub shorter : {n a b : ℕ} → Within n R → Plus R a b → Short R n a b
  shorter {n} {a} {b} on p =
      let w = plus_walk p in
      let z = straight a w.by b w.walk in
      record { by = z.by; walk = z.walk; few = at_most n z.by z.apart (walk_below R n (λ x y r. on.right r) a z.by b z.walk) }

-- A cycle carried along an injective renumbering is a cycle.
use mathlib.Core.Path.{◌≡◌}
use mathlib.Core.List.{List, [], ◌∷◌, map}
use Prim.Native.Nat.{ℕ}
use Rattle.laws.specs.Steps.{Rel, Walk, NotIn, Different, IsCycle}

module _ (f : ℕ → ℕ) (injective : (i j : ℕ) → f i ≡ f j → i ≡ j) where
  not_in_map : (a : ℕ) (xs : List ℕ) → NotIn a xs → NotIn (f a) (map f xs)
  not_in_map a [] n = tt
  not_in_map a (x ∷ xs) n = (λ e. n.0 (injective a x e), not_in_map a xs n.1)

  different_map : (xs : List ℕ) → Different xs → Different (map f xs)
  different_map [] d = tt
  different_map (x ∷ xs) d = (not_in_map x xs d.0, different_map xs d.1)

  module _ (R S : Rel) (step : (a b : ℕ) → R a b → S (f a) (f b)) where
    walk_map : (a : ℕ) (xs : List ℕ) (b : ℕ) → Walk R a xs b → Walk S (f a) (map f xs) (f b)
    walk_map a [] b w = step a b w
    walk_map a (x ∷ xs) b w = (step a x w.0, walk_map x xs b w.1)

    pub cycle_map : (c : List ℕ) → IsCycle R c → IsCycle S (map f c)
    cycle_map [] c = c
    cycle_map (a ∷ xs) c = (different_map (a ∷ xs) c.0, walk_map a xs a c.1)

-- Walks of so many steps, and the bytes of a least one.
use Rattle.std.specs.Prelude.{◌≡◌, List, ◌∷◌, ◌++◌, ℕ, ◌+◌, length, drop}
use Rattle.laws.specs.Steps.{Rel, Walk}
use Rattle.laws.specs.Tails.{LeastTail}

-- a walk of so many steps
pub record Reaches (R : Rel) (a b k : ℕ) : Type 0 where
  pub by : List ℕ
  pub walk : Walk R a by b
  pub long : length by + 1 ≡ k

-- the least closed walk of len steps from s is written, and after it stands what stood there
pub record Wrote (R : Rel) (s len : ℕ) (before after : List ℕ) : Type 0 where
  pub list : List ℕ
  pub tail : LeastTail R s s len list
  pub holds : after ≡ s ∷ (list ++ drop len before)

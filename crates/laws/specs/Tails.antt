-- The least list by which a walk of so many steps goes: what the search for a least cycle builds.
use Rattle.std.specs.Prelude.{◌≡◌, List, ℕ, ◌+◌, length}
use Rattle.laws.specs.Steps.{Rel, Walk}
use Rattle.laws.specs.Least.{ListAtMost}

-- l is the least list by which a walk of k steps goes from a to t
pub record LeastTail (R : Rel) (t a k : ℕ) (l : List ℕ) : Type 0 where
  pub walk : Walk R a l t
  pub long : length l + 1 ≡ k
  pub least : (m : List ℕ) → Walk R a m t → length m + 1 ≡ k → ListAtMost l m

-- What columns of codes say of numbers: a kind of 2 or more writes; a place is one of 32, and 32 stands for none.
use Rattle.std.specs.Prelude.{◌≡◌, List, ℕ, ◌<◌, ◌≤◌, length, get_or}

-- a column of places of the numbers below n
pub record Placed (n : ℕ) (place : List ℕ) : Type 0 where
  pub all : n ≤ length place
  pub known : (b : ℕ) → b < n → get_or place b 0 ≤ 32

-- a writes at the place l
pub record WritesAt (n : ℕ) (kind place : List ℕ) (a l : ℕ) : Type 0 where
  pub low : a < n
  pub writes : 2 ≤ get_or kind a 0
  pub at : get_or place a 0 ≡ l

-- a is of the order l
pub record OfOrder (n : ℕ) (order : List ℕ) (a l : ℕ) : Type 0 where
  pub low : a < n
  pub is : get_or order a 0 ≡ l

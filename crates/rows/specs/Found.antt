-- What a search along a row finds.
use Rattle.std.specs.Prelude.{List, ◌≡◌, ℕ, ◌*◌, ◌≤◌, ◌<◌}
use Rattle.rows.specs.Rows.{On}

-- r is the least number from lo on that row b has, or 64 * w if it has none
pub record NextOf (w : ℕ) (m : List (List ℕ)) (b lo r : ℕ) : Type 0 where
  pub low : lo ≤ r
  pub high : r ≤ 64 * w
  pub before : (a : ℕ) → lo ≤ a → a < r → ¬ On w m a b
  pub on : r < 64 * w → On w m r b

-- r is the greatest number that row b has, or 64 * w if it has none
pub record LastOf (w : ℕ) (m : List (List ℕ)) (b r : ℕ) : Type 0 where
  pub high : r ≤ 64 * w
  pub past : (a : ℕ) → On w m a b → a ≤ r
  pub on : r < 64 * w → On w m r b
  pub none : r ≡ 64 * w → (a : ℕ) → ¬ On w m a b

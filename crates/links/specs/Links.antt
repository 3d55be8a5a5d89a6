-- Links from record to record: what one leads to.
use Rattle.std.specs.Prelude.{◌≡◌, ℕ, Option, Some}

-- the link leads to a number that has P
pub record Linked (link : Option ℕ) (P : ℕ → Type 0) : Type 0 where
  pub to : ℕ
  pub is : link ≡ Some to
  pub has : P to

-- the link leads to whatever has P, and to nothing else
pub record Leads (link : Option ℕ) (P : ℕ → Type 0) : Type 0 where
  pub has : (s : ℕ) → link ≡ Some s → P s
  pub only : (s : ℕ) → P s → link ≡ Some s

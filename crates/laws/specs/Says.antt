-- A test tells a fact: it passes exactly where the fact holds.
use Rattle.std.specs.Prelude.{Bool, false, ◌||◌, ℕ, zero, suc, T}

pub record Says (b : Bool) (P : Type 0) : Type 0 where
  pub to : T b → P
  pub from : P → T b

-- some number below n passes
unfoldable pub any_below : (ℕ → Bool) → ℕ → Bool
any_below f zero = false
any_below f (suc n) = any_below f n || f n

-- Steps that columns give. A column has a number for each number b, and leads from it to b where it is lower.
use Rattle.std.specs.Prelude.{◌≡◌, List, ℕ, ◌<◌, get_or}
use Rattle.laws.specs.Steps.{Rel, Plus}

-- the column leads from a to b
pub record Leads (column : List ℕ) (a b : ℕ) : Type 0 where
  pub is : get_or column b 0 ≡ a
  pub falls : a < b

-- one of two columns does
pub data ByEither (c d : List ℕ) (a b : ℕ) : Type 0 where
  by_first : Leads c a b → ByEither c d a b
  by_second : Leads d a b → ByEither c d a b

-- no step, or one or more
pub data Star (R : Rel) (a : ℕ) : ℕ → Type 0 where
  here : Star R a a
  on : {b : ℕ} → Plus R a b → Star R a b

-- R, then S
pub record Then (R S : Rel) (a b : ℕ) : Type 0 where
  pub mid : ℕ
  pub first : R a mid
  pub next : S mid b

-- What stands under the arms of a branch: a column of parents, and one of arms, which leads to a number from its parent where it is an arm.
use Rattle.std.specs.Prelude.{List, ℕ, ◌<◌}
use Rattle.laws.specs.Steps.{Rel}
use Rattle.rows.specs.Steps.{Leads, Star, Then}

-- b is an arm of something that A relates a to, but U does not relate a to b itself
pub record BesideBy (arm : List ℕ) (U A : Rel) (a b : ℕ) : Type 0 where
  pub from : ℕ
  pub is : Leads arm from b
  pub among : A a from
  pub not_under : ¬ U a b

module _ (n : ℕ) (parent : List ℕ) where
  -- X relates a to something at or below b, among the numbers below n
  pub record Under (X : Rel) (a b : ℕ) : Type 0 where
    pub at : ℕ
    pub low : at < n
    pub related : X a at
    pub below : Star (Leads parent) b at

  -- to something at or below an arm of p
  pub record UnderArms (arm : List ℕ) (X : Rel) (a p : ℕ) : Type 0 where
    pub of : ℕ
    pub low : of < n
    pub is : Leads arm p of
    pub under : Under X a of

  -- b is an arm, and X relates a to something at or below an arm beside it, but to nothing at or below b
  abbrev pub Beside : List ℕ → Rel → Rel
  Beside arm X = BesideBy arm (Under X) (UnderArms arm X)

  -- so at b or above it
  abbrev pub Apart : List ℕ → Rel → Rel
  Apart arm X = Then (Beside arm X) (Star (Leads parent))

-- the column leads from one number to two of those below n
pub record Forks (n : ℕ) (column : List ℕ) : Type 0 where
  pub from : ℕ
  pub first : ℕ
  pub second : ℕ
  pub apart : first < second
  pub low : second < n
  pub to_first : Leads column from first
  pub to_second : Leads column from second

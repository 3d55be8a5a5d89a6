-- A row of numbers, outside which there is no cycle.
use Rattle.std.specs.Prelude.{List, ℕ, ◌<◌}
use Rattle.laws.specs.Steps.{Plus}
use Rattle.rows.specs.declared.set.Set.{Set}
use Rattle.rows.specs.Sets.{In}
use Rattle.rows.specs.Rows.{On, Room, Cell}

-- a row has the numbers below n
pub record Filled (w n : ℕ) (alive : List (List ℕ)) : Type 0 where
  pub all : (a : ℕ) → a < n → On w alive a 0
  pub only : (a : ℕ) → On w alive a 0 → a < n

-- it has only numbers below n, and every number from which steps lead back to it
pub record Keeps (w n : ℕ) (m alive : List (List ℕ)) : Type 0 where
  pub low : (a : ℕ) → On w alive a 0 → a < n
  pub cycles : (a : ℕ) → Plus (Cell w n m) a a → On w alive a 0

-- and a set has whatever leads to such a number below b
pub record Feeds (w n : ℕ) (m : List (List ℕ)) (b : ℕ) (alive : List (List ℕ)) (sources : Set w) : Type 0 where
  pub keeps : Keeps w n m alive
  pub all : (a c : ℕ) → c < b → Plus (Cell w n m) c c → Cell w n m a c → In sources a

-- ---- what the functions ask

pub record TrimRoom (w n : ℕ) (m alive : List (List ℕ)) : Type 0 where
  pub matrix : Room w n n m
  pub row : Room w n 1 alive

pub record Trims (w n : ℕ) (m alive : List (List ℕ)) : Type 0 where
  pub has : TrimRoom w n m alive
  pub keeps : Keeps w n m alive

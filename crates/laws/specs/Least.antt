-- Least witnesses: of all the things that show a finding, the least, or none where nothing shows it.
use Rattle.std.specs.Prelude.{◌≡◌, ◌⊎◌, List, [], ◌∷◌, ℕ, ◌<◌, ◌≤◌, length, Option, None, Some}
use Rattle.laws.specs.Steps.{Rel, IsCycle}

-- the witness by an order: nothing shows it, or this shows it and is at most everything that does
pub data Least {A : Type 0} (AtMost : A → A → Type 0) (Shows : A → Type 0) : Option A → Type 0 where
  absent : ((a : A) → ¬ Shows a) → Least AtMost Shows None
  least : {a : A} → Shows a → ((b : A) → Shows b → AtMost a b) → Least AtMost Shows (Some a)

-- "least such record"
abbrev pub LeastNumber : (ℕ → Type 0) → Option ℕ → Type 0
LeastNumber P = Least ◌≤◌ P

-- two record numbers
pub record Pair : Type 0 where
  pub first : ℕ
  pub second : ℕ

-- "Pairs are compared by the first number, then the second"
pub data PairAtMost (p q : Pair) : Type 0 where
  by_first : p.first < q.first → PairAtMost p q
  by_second : p.first ≡ q.first → p.second ≤ q.second → PairAtMost p q

abbrev pub LeastPair : Rel → Option Pair → Type 0
LeastPair P = Least PairAtMost (λ p. P p.first p.second)

-- of two lists of one length: "the least list, number by number"
abbrev pub ListAtMost : List ℕ → List ℕ → Type 0
ListAtMost [] m = Unit {0}
ListAtMost (a ∷ l) [] = ⊥
ListAtMost (a ∷ l) (b ∷ m) = (a < b) ⊎ ((a ≡ b) × ListAtMost l m)

-- "The witness has fewest records, and of those is the least list"
pub data CycleAtMost (c d : List ℕ) : Type 0 where
  fewer : length c < length d → CycleAtMost c d
  as_many : length c ≡ length d → ListAtMost c d → CycleAtMost c d

abbrev pub LeastCycle : Rel → Option (List ℕ) → Type 0
LeastCycle R = Least CycleAtMost (IsCycle R)

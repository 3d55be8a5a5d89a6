-- The search for a least cycle with one row of entries.
use Rattle.std.specs.Prelude.{◌≡◌, List, ℕ, ◌+◌, ◌<◌, ◌≤◌, length, Option, MatchOption}
use Rattle.laws.specs.Steps.{Rel, Walk}
use Rattle.cycle.specs.Distances.{Reaches}
use Rattle.facts.specs.Sound.{Counted}
use Rattle.tracing.specs.Layers.{entry, StepsTo}

-- k is the least number of steps from s back to s, 255 for none
pub record Back (R : Rel) (s k : ℕ) : Type 0 where
  pub low : k ≤ 255
  pub sound : k < 255 → Reaches R s s k
  pub complete : (xs : List ℕ) → Walk R s xs s → k ≤ length xs + 1

-- of the records below m, s is the first from which the fewest steps lead back, and they are `best`
pub record Chosen (R : Rel) (m s : ℕ) : Type 0 where
  pub best : ℕ
  pub some : best < 255
  pub back : Back R s best
  pub few : (a : ℕ) (xs : List ℕ) → a < m → Walk R a xs a → best ≤ length xs + 1
  pub first : (a : ℕ) (xs : List ℕ) → a < s → Walk R a xs a → best < length xs + 1

-- such a record, or none
abbrev pub StartOf : Rel → ℕ → Option ℕ → Type 0
StartOf R n start =
    MatchOption start ((a : ℕ) (xs : List ℕ) → a < n → Walk R a xs a → 255 ≤ length xs + 1) (λ s. (s < n) × Chosen R n s)

-- x is the first record with a step from a and the entry k
pub record IsNext (R : Rel) (n : ℕ) (d : List ℕ) (a k x : ℕ) : Type 0 where
  pub inside : x < n
  pub step : R a x
  pub is : entry d x ≡ k
  pub before : (y : ℕ) → y < x → R a y → ¬ (entry d y ≡ k)

-- such a record, or none
abbrev pub NextOf : Rel → ℕ → List ℕ → ℕ → ℕ → Option ℕ → Type 0
NextOf R n d a k next = MatchOption next ((y : ℕ) → y < n → R a y → ¬ (entry d y ≡ k)) (IsNext R n d a k)

-- what writing a cycle asks: a start, the fewest steps to it, their number back to itself, and room for so many
pub record Writes (R : Rel) (bytes : List ℕ) (n s len : ℕ) (d out : List ℕ) : Type 0 where
  pub table : Counted bytes n
  pub start : s < n
  pub is : entry d s ≡ len
  pub small : len < 255
  pub some : 0 < len
  pub room : len ≤ length out
  pub steps : StepsTo R n s d

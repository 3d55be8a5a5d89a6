-- A walk along the numbers of a set.
use Rattle.std.specs.Prelude.{◌≡◌, ℕ, ◌+◌, ◌*◌, ◌≤◌, ◌<◌, Option, MatchOption}
use Rattle.rows.specs.declared.set.Set.{Set}
use Rattle.rows.specs.declared.numbers.Numbers.{Numbers}
use Rattle.rows.specs.Sets.{In}

-- it is at the start of s, and ends at n
pub record Starts {W : ℕ} (it : Numbers W) (s : Set W) (n : ℕ) : Type 0 where
  pub few : W ≤ 4
  pub wide : n ≤ 64 * W
  pub of : it.of ≡ s
  pub at : it.at ≡ 0
  pub end : it.end ≡ n

-- it can go on
pub record Goes {W : ℕ} (it : Numbers W) : Type 0 where
  pub few : W ≤ 4
  pub wide : it.end ≤ 64 * W
  pub low : it.at ≤ it.end

-- v is the next number
pub record Meets {W : ℕ} (it : Numbers W) (v : ℕ) (on : Numbers W) : Type 0 where
  pub low : it.at ≤ v
  pub high : v < it.end
  pub has : In it.of v
  pub before : (a : ℕ) → it.at ≤ a → a < v → ¬ In it.of a
  pub of : on.of ≡ it.of
  pub at : on.at ≡ v + 1
  pub end : on.end ≡ it.end

-- the next number, or none is left
abbrev pub Steps : {W : ℕ} → Numbers W → Option ℕ → Numbers W → Type 0
Steps it r on = MatchOption r ((a : ℕ) → it.at ≤ a → a < it.end → ¬ In it.of a) (λ v. Meets it v on)

-- The first pair of numbers that passes a test.
use Rattle.std.specs.Prelude.{Bool, true, false, ℕ, ◌<◌}
use Rattle.findings.specs.declared.Found.{Found}
use Rattle.findings.specs.declared.Found.TheVariants as found

module _ (n : ℕ) (Answers : ℕ → ℕ → Bool → Type 0) where
  -- of the pairs of numbers below n, none before p, q passes
  pub record Refused (p q : ℕ) : Type 0 where
    pub rows : (x y : ℕ) → x < p → y < n → Answers x y false
    pub here : (y : ℕ) → y < q → Answers p y false

  -- "the first pair that fits"
  pub data FirstPair : Found → Type 0 where
    no_pair : Refused n 0 → FirstPair found.Nothing
    that_pair : {p q : ℕ} → p < n → q < n → Answers p q true → Refused p q → FirstPair (found.Pair p q)

-- Which records a selection names, and when it is refused.
use Rattle.std.specs.Prelude.{◌≡◌, Bool, List, ℕ, ◌+◌, ◌/◌, ◌%◌, ◌^◌, ◌≤◌, T, eqb, length, get_or}
use Rattle.limits.specs.Limit.{limit}

-- "A selection is now 25 bytes": a bit for each record that a table can have
abbrev pub selection_size : ℕ
selection_size = (limit + 7) / 8

-- "record n being bit n mod 8 of byte n div 8": the bit that weighs 2 to that power
abbrev pub named : List ℕ → ℕ → Bool
named s n = eqb (get_or s (n / 8) 0 / 2 ^ (n % 8) % 2) 1

-- 9: "selection empty, or naming a record at or past the count"; "9 is also given for a selection that isn't 25 bytes long"
pub data Refused9 (s : List ℕ) (count : ℕ) : Type 0 where
  empty : ((n : ℕ) → ¬ T (named s n)) → Refused9 s count
  past_count : {n : ℕ} → count ≤ n → T (named s n) → Refused9 s count
  other_size : ¬ (length s ≡ selection_size) → Refused9 s count

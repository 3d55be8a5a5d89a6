-- Sets of numbers in words.
use Rattle.std.specs.Prelude.{◌≡◌, List, ℕ, ◌-◌, ◌*◌, ◌/◌, ◌%◌, ◌^◌, ◌<◌, get_or, slice_set, bit_and, bit_or}
use Rattle.rows.specs.declared.set.Set.{Set}

-- bit i of x
abbrev pub digit : ℕ → ℕ → ℕ
digit x i = x / 2 ^ i % 2

-- the bit of a in its word
abbrev pub bit_of : ℕ → ℕ
bit_of a = 1 * 2 ^ (a % 64) % 2 ^ 64

-- words that take in a
abbrev pub with_bit : List ℕ → ℕ → List ℕ
with_bit words a = slice_set words (a / 64) (bit_or (get_or words (a / 64) 0) (bit_of a))

-- words that lose a
abbrev pub without_bit : List ℕ → ℕ → List ℕ
without_bit words a = slice_set words (a / 64) (bit_and (get_or words (a / 64) 0) (2 ^ 64 - 1 - bit_of a))

-- the set s has a
pub record In {W : ℕ} (s : Set W) (a : ℕ) : Type 0 where
  pub col : a < 64 * W
  pub is1 : digit (get_or s.words (a / 64) 0) (a % 64) ≡ 1

-- s has what P says, and nothing else
pub record Is {W : ℕ} (s : Set W) (P : ℕ → Type 0) : Type 0 where
  pub all : (a : ℕ) → P a → In s a
  pub only : (a : ℕ) → In s a → P a

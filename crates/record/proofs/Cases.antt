-- What holds at each of a few numbers holds at every number among them.
use mathlib.Core.Path.{◌≡◌, subst}
use Prim.Native.Nat.{ℕ, zero, suc, ◌+◌, ◌-◌, ◌<◌, ◌≤◌}
use native.Mathlib.Omega.{arith}
use native.Mathlib.Decide.{dec_lt}

-- what holds at 0, 1, 2 and 3 holds below 4
pub four : (P : ℕ → Type 0) → P 0 → P 1 → P 2 → P 3 → (n : ℕ) → n < 4 → P n
four P a b c d zero h = a
four P a b c d (suc zero) h = b
four P a b c d (suc (suc zero)) h = c
four P a b c d (suc (suc (suc zero))) h = d
four P a b c d (suc (suc (suc (suc n)))) h = absurd (omega arith)

pub five : (P : ℕ → Type 0) → P 0 → P 1 → P 2 → P 3 → P 4 → (n : ℕ) → n < 5 → P n
five P a b c d e zero h = a
five P a b c d e (suc n) h = four (λ (m : ℕ). P (suc m)) b c d e n (omega arith)

-- the five from k on
five_from : (k : ℕ) (P : ℕ → Type 0) → P (k + 0) → P (k + 1) → P (k + 2) → P (k + 3) → P (k + 4) → (n : ℕ) → k ≤ n → n < k + 5 → P n
five_from k P a b c d e n l h =
    let same : k + (n - k) ≡ n = omega arith in
    subst P same (five (λ (m : ℕ). P (k + m)) a b c d e (n - k) (omega arith))

-- the bytes from 6 to 15
pub six_to_fifteen :
    (P : ℕ → Type 0) → P 6 → P 7 → P 8 → P 9 → P 10 → P 11 → P 12 → P 13 → P 14 → P 15 → (n : ℕ) → 6 ≤ n → n < 16 → P n
six_to_fifteen P a b c d e f g h i j n l m = go (dec_lt n 11)
  where
    go : Dec (n < 11) → P n
    go (yes k) = five_from 6 P a b c d e n l k
    go (no k) = five_from 11 P f g h i j n (omega arith) (omega arith)

-- The highest set bit of a word.
use mathlib.Core.Path.{◌≡◌, sym, ap, subst, ◌∙◌}
use Prim.Native.Nat.{ℕ, suc, ◌+◌, ◌-◌, ◌/◌, ◌%◌, ◌^◌, ◌<◌, ◌≤◌}
use native.Mathlib.Nat.{div-eq_of_lt, lt_of_lt_of_le, le-div_iff_mul-le, one-mul}
use native.Mathlib.Numerals.{one-add}
use native.Mathlib.Decide.{dec_lt}
use native.Mathlib.Omega.{arith}
use lib.Count.{count_leading_zeros, leading_top}
use lib.Pow.{pow_pos, pow_mono, shr_lt}
use Rattle.rows.specs.Sets.{digit}

module _ (x : ℕ) (fits : x < 2 ^ 64) (other : 0 < x) where
  top : (j : ℕ) × (count_leading_zeros 64 x + suc j ≡ 64) × (2 ^ j ≤ x) × (x < 2 ^ suc j)
  top = leading_top 64 x other fits

  is_top : 63 - count_leading_zeros 64 x ≡ top.0
  is_top = omega (arith, top.1)

  pub leading_low : count_leading_zeros 64 x ≤ 63
  leading_low = omega (arith, top.1)

  -- it is 1
  pub leading_at : digit x (63 - count_leading_zeros 64 x) ≡ 1
  leading_at = ap (digit x) is_top ∙ ap (λ (y : ℕ). y % 2) once
    where
      once : x / 2 ^ top.0 ≡ 1
      once =
          let low : 1 ≤ x / 2 ^ top.0 = (le-div_iff_mul-le (pow_pos top.0)).1 (rw one-mul top.2) in
          let high : x / 2 ^ top.0 < 2 ^ 1 = shr_lt 1 top.0 (subst (λ (z : ℕ). x < 2 ^ z) (sym (one-add top.0)) top.3) in
          omega (arith, low, high)

  -- and the last
  pub leading_past : (i : ℕ) → digit x i ≡ 1 → i ≤ 63 - count_leading_zeros 64 x
  leading_past i e = by (dec_lt top.0 i)
    where
      by : Dec (top.0 < i) → i ≤ 63 - count_leading_zeros 64 x
      by (yes l) =
          let z : digit x i ≡ 0 = ap (λ (y : ℕ). y % 2) (div-eq_of_lt (lt_of_lt_of_le top.3 (pow_mono l))) in
          absurd (omega (arith, z, e))
      by (no l) = omega (arith, is_top)

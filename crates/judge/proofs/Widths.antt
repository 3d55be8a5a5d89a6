-- How many words a row of a judging has.
use mathlib.Core.Path.{◌≡◌}
use Prim.Native.Nat.{ℕ}
use native.Mathlib.Omega.{arith}
use Rattle.rows.specs.Rows.{Width}

-- a row that has neither one word nor two has four: there are none of three
pub four_words : {w : ℕ} → Width w → ¬ (w ≡ 3) → ¬ (w ≡ 1) → ¬ (w ≡ 2) → w ≡ 4
four_words h not_3 one two = omega (arith, h.some, h.most, not_3, one, two)

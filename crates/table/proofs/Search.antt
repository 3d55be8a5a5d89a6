-- A search that goes on from number to number.
use mathlib.Core.Path.{◌≡◌, refl, sym, subst}
use mathlib.Core.Bool.{Bool, true, false, ◌||◌}
use Prim.Native.Nat.{ℕ, ◌+◌, ◌<◌}
use native.Mathlib.Numerals.{add-one}
use lib.Dec.{T}
use Rattle.laws.specs.Says.{any_below}
use Rattle.laws.proofs.Says.{says_T, any_of}
use Rattle.record.proofs.Exact.{is_true}

pub any_none : (f : ℕ → Bool) → false ≡ any_below f 0
unfolding any_below
any_none f = refl

pub any_more : (f : ℕ → Bool) (m : ℕ) {found hit : Bool} → found ≡ any_below f m → hit ≡ f m → (found || hit) ≡ any_below f (m + 1)
unfolding any_below
any_more f m e h = simp (add-one, e, h)

-- it stops at the first number that fits
pub any_found : (f : ℕ → Bool) (n m : ℕ) → m < n → f m ≡ true → true ≡ any_below f n
any_found f n m l e = sym (is_true (says_T (any_below f n)) (any_of f n m l (subst T (sym e) tt)))

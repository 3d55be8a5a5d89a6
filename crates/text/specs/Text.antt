-- Decimal numbers, lists of them, and what it is to write a text at a place.
use Rattle.std.specs.Prelude.{◌≡◌, Bool, true, false, List, [], ◌∷◌, ◌++◌, ℕ, zero, suc, ◌+◌, ◌/◌, ◌%◌, ltb, length, take, drop}

-- "decimal numbers without leading zeros": the digits of n / 10, then the digit n % 10. The first argument bounds the recursion
abbrev pub none_if : Bool → List ℕ → List ℕ
none_if true l = []
none_if false l = l

unfoldable pub digits : ℕ → ℕ → List ℕ
digits zero n = []
digits (suc bound) n = none_if (ltb n 10) (digits bound (n / 10)) ++ ((48 + n % 10) ∷ [])

unfoldable pub decimal : ℕ → List ℕ
decimal n = digits (suc n) n

-- a piece for each of a list, one after another
module _ {A : Type 0} (piece : A → List ℕ) where
  abbrev pub each : List A → List ℕ
  each [] = []
  each (a ∷ l) = piece a ++ each l

-- "one space before each"
abbrev pub spaced : ℕ → List ℕ
spaced n = 32 ∷ decimal n

abbrev pub spaced_each : List ℕ → List ℕ
spaced_each = each spaced

-- after is before with the text in place from `at` on, and r is the place after the text
pub record Written (before : List ℕ) (at : ℕ) (text : List ℕ) (after : List ℕ) (r : ℕ) : Type 0 where
  pub holds : after ≡ take at before ++ (text ++ drop (at + length text) before)
  pub next : r ≡ at + length text

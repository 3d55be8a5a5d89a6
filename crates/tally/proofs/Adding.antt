-- Two lists of numbers added place by place, from the front on.
use mathlib.Core.Path.{◌≡◌, refl, ap}
use mathlib.Core.List.{List, [], ◌∷◌}
use Prim.Native.Nat.{ℕ, zero, suc, ◌+◌, ◌<◌, ◌≤◌}
use native.Mathlib.Omega.{arith}
use lib.ListN.{length, get_or, set}
use Rattle.tally.specs.Sums.{add_each}

-- the first so many added
abbrev pub add_to : ℕ → List ℕ → List ℕ → List ℕ
add_to zero k l = k
add_to (suc i) [] l = []
add_to (suc i) (m ∷ k) [] = m ∷ k
add_to (suc i) (m ∷ k) (n ∷ l) = (m + n) ∷ add_to i k l

-- the next is as it was
pub added_here : (i : ℕ) (k l : List ℕ) → get_or (add_to i k l) i 0 ≡ get_or k i 0
added_here zero k l = refl
added_here (suc i) [] l = refl
added_here (suc i) (m ∷ k) [] = refl
added_here (suc i) (m ∷ k) (n ∷ l) = added_here i k l

pub added_next :
    (i : ℕ) (k l : List ℕ) → i < length k → i < length l → set (add_to i k l) i (get_or k i 0 + get_or l i 0) ≡ add_to (suc i) k l
added_next zero [] l h g = refl
added_next zero (m ∷ k) [] h g = absurd (omega arith)
added_next zero (m ∷ k) (n ∷ l) h g = refl
added_next (suc i) [] l h g = refl
added_next (suc i) (m ∷ k) [] h g = absurd (omega arith)
added_next (suc i) (m ∷ k) (n ∷ l) h g = ap (λ (x : List ℕ). (m + n) ∷ x) (added_next i k l (omega arith) (omega arith))

-- past the end all are added
pub added_all : (i : ℕ) (k l : List ℕ) → length k ≤ i → add_to i k l ≡ add_each k l
added_all zero [] l past = refl
added_all zero (m ∷ k) l past = absurd (omega arith)
added_all (suc i) [] l past = refl
added_all (suc i) (m ∷ k) [] past = refl
added_all (suc i) (m ∷ k) (n ∷ l) past = ap (λ (x : List ℕ). (m + n) ∷ x) (added_all i k l (omega arith))

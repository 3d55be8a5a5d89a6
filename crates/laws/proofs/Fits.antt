-- Witnesses among the numbers below n: every record of one is below n, and a cycle has at most n.
use mathlib.Core.List.{List, [], ◌∷◌}
use Prim.Native.Nat.{ℕ, ◌<◌, ◌≤◌}
use lib.ListN.{length}
use Rattle.laws.specs.Steps.{IsCycle}
use Rattle.laws.specs.Least.{Pair}
use Rattle.laws.specs.Witness.{Witness, a_record, a_pair, a_cycle}
use Rattle.laws.proofs.Steps.{Within}
use Rattle.laws.proofs.Walks.{Below, walk_below, walk_starts, cycle_fits}

pub data Fits (n : ℕ) : Witness → Type 0 where
  one_inside : {r : ℕ} → r < n → Fits n (a_record r)
  two_inside : {p : Pair} → p.first < n → p.second < n → Fits n (a_pair p)
  all_inside : {c : List ℕ} → Below n c → length c ≤ n → Fits n (a_cycle c)

pub first_inside : {n : ℕ} {p : Pair} → Fits n (a_pair p) → p.first < n
first_inside (two_inside l h) = l

pub second_inside : {n : ℕ} {p : Pair} → Fits n (a_pair p) → p.second < n
second_inside (two_inside l h) = h

-- a cycle of a relation on the numbers below n
pub cycle_inside : {n : ℕ} {R : ℕ → ℕ → Type 0} → Within n R → (c : List ℕ) → IsCycle R c → Fits n (a_cycle c)
cycle_inside w [] z = absurd z
cycle_inside {n} {R} w (a ∷ xs) z =
    all_inside {c = a ∷ xs} (walk_starts R w a xs a z.1, walk_below R n (λ x y r. w.right r) a xs a z.1) (cycle_fits R n w (a ∷ xs) z)

-- The records of a sound table: what their numbers and their count bound.
use mathlib.Core.Path.{sym, subst}
use mathlib.Core.List.{List}
use Prim.Native.Nat.{ℕ, ◌*◌, ◌<◌, ◌≤◌}
use native.Mathlib.Nat.{le_trans, mul-le-mul_left, mul-le-mul_right}
use native.Mathlib.Omega.{arith}
use Rattle.laws.proofs.Steps.{Within}
use Rattle.limits.specs.Limit.{limit}
use Rattle.model.specs.WellFormed.{WellFormed}
use Rattle.table.specs.Events.{events_of}
use Rattle.facts.specs.Sound.{One, Two, Counted, Placed}

pub square_within : {n m : ℕ} → n ≤ m → n * n ≤ m * m
square_within {n} {m} h = le_trans (mul-le-mul_left n h) (mul-le-mul_right m h)

module _ {b : List ℕ} {n : ℕ} (counted : Counted b n) where
  pub formed : WellFormed (events_of b)
  formed = counted.sound.formed

  pub one_of : {a : ℕ} → a < n → One b a
  one_of l = record { sound = counted.sound; inside = omega (arith, counted.all) }

  pub within_count : {R : ℕ → ℕ → Type 0} → Within (events_of b).count R → Within n R
  within_count {R} = subst (λ (k : ℕ). Within k R) (sym counted.all)

  pub few : n ≤ limit
  few = omega (arith, counted.all, counted.sound.few)

  pub square_few : n * n ≤ limit * limit
  square_few = square_within few

module _ {b : List ℕ} {a c : ℕ} (two : Two b a c) where
  pub first_of : One b a
  first_of = record { sound = two.sound; inside = two.first }

  pub second_of : One b c
  second_of = record { sound = two.sound; inside = two.second }

pub two_of : {b : List ℕ} {n a c : ℕ} → Placed b n a c → Two b a c
two_of placed =
    let n = placed.table.all in
    record { sound = placed.table.sound; first = omega (arith, n, placed.col); second = omega (arith, n, placed.row) }

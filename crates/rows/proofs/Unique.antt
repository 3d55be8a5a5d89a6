-- Two sets, or two matrices, of which the same is said are the same.
use mathlib.Core.Path.{◌≡◌, sym, ap, subst, ◌∙◌}
use mathlib.Core.List.{List, []}
use Prim.Native.Nat.{ℕ, ◌+◌, ◌*◌, ◌/◌, ◌%◌, ◌^◌, ◌<◌}
use native.Mathlib.Omega.{arith}
use lib.ListN.{get_or}
use Rattle.std.proofs.lemmas.Nat.Bits.{same_from_bits_below}
use Rattle.rows.specs.declared.set.Set.{Set}
use Rattle.rows.specs.Sets.{digit, In, Is}
use Rattle.rows.specs.Rows.{MadeRow}
use Rattle.rows.proofs.Digits.{Bit, digit_is}
use Rattle.rows.proofs.Sets.{is_iff}
use Rattle.rows.proofs.Rows.{is_row}

-- a bit is known by whether it is 1
digit_one_of : (x y i j : ℕ) → (digit x i ≡ 1 → digit y j ≡ 1) → (digit y j ≡ 1 → digit x i ≡ 1) → digit x i ≡ digit y j
digit_one_of x y i j f g = by (digit_is x i) (digit_is y j)
  where
    by : Bit (digit x i ≡ 1) (digit x i) → Bit (digit y j ≡ 1) (digit y j) → digit x i ≡ digit y j
    by (Bit.on e p) (Bit.on h q) = e ∙ sym h
    by (Bit.on e p) (Bit.off h q) = absurd (q (f p))
    by (Bit.off e p) (Bit.on h q) = absurd (p (g q))
    by (Bit.off e p) (Bit.off h q) = e ∙ sym h

-- two words are one if a number that either has is the other's too
word_one : (x y k : ℕ) → x < 2 ^ 64 → y < 2 ^ 64
    → ((a : ℕ) → a / 64 ≡ k → digit x (a % 64) ≡ 1 → digit y (a % 64) ≡ 1) → ((a : ℕ) → a / 64 ≡ k → digit y (a % 64) ≡ 1 → digit x (a % 64) ≡ 1)
    → x ≡ y
word_one x y k f g there back = same_from_bits_below 64 x y f g (λ i l. digit_one_of x y i i (at x y i l there) (at y x i l back))
  where
    at : (x y i : ℕ) → i < 64 → ((a : ℕ) → a / 64 ≡ k → digit x (a % 64) ≡ 1 → digit y (a % 64) ≡ 1) → digit x i ≡ 1 → digit y i ≡ 1
    at x y i l h e =
        let place : (64 * k + i) % 64 ≡ i = omega arith in
        subst (λ (z : ℕ). digit y z ≡ 1) place (h (64 * k + i) (omega arith) (subst (λ (z : ℕ). digit x z ≡ 1) (sym place) e))

-- each word of a set
module _ {W : ℕ} {x y : Set W} {P : ℕ → Type 0} (p : Is x P) (q : Is y P) where
  pub set_one : (k : ℕ) → k < W → get_or x.words k 0 < 2 ^ 64 → get_or y.words k 0 < 2 ^ 64 → get_or x.words k 0 ≡ get_or y.words k 0
  set_one k l f g = word_one (get_or x.words k 0) (get_or y.words k 0) k f g (of x y p q) (of y x q p)
    where
      of : (x y : Set W) → Is x P → Is y P → (a : ℕ) → a / 64 ≡ k → digit (get_or x.words k 0) (a % 64) ≡ 1 → digit (get_or y.words k 0) (a % 64) ≡ 1
      of x y p q a e h =
          let i : In x a = record { col = omega arith; is1 = ap (λ (z : ℕ). digit (get_or x.words z 0) (a % 64)) e ∙ h } in
          ap (λ (z : ℕ). digit (get_or y.words z 0) (a % 64)) (sym e) ∙ (q.all a (p.only a i)).is1

-- each word of a row
module _ {w b : ℕ} {P : ℕ → Type 0} {m₀ m m' : List (List ℕ)} (p : MadeRow w b P m₀ m) (q : MadeRow w b P m₀ m') where
  pub made_row_one :
      (k : ℕ) → k < w → get_or (get_or m b []) k 0 < 2 ^ 64 → get_or (get_or m' b []) k 0 < 2 ^ 64 → get_or (get_or m b []) k 0 ≡ get_or (get_or m' b []) k 0
  made_row_one = set_one {W = w} {x = record { words = get_or m b [] }} {y = record { words = get_or m' b [] }} (is p) (is q)
    where
      is : {m : List (List ℕ)} → MadeRow w b P m₀ m → Is {W = w} (record { words = get_or m b [] }) P
      is {m} r = is_iff r.only r.all (is_row w m b)

-- Least witnesses: there is one only, and it depends only on what shows the finding.
use Rattle.std.specs.Prelude.{Option, Some}
use mathlib.Core.Path.{◌≡◌, refl, ap, ap₂}
use mathlib.Core.Logic.{◌⊎◌, inl, inr}
use mathlib.Core.List.{List, [], ◌∷◌}
use Prim.Native.Nat.{ℕ, ◌<◌, ◌≤◌}
use native.Mathlib.Omega.{arith}
use lib.ListN.{length}
use Rattle.laws.specs.Steps.{Walk, IsCycle}
use Rattle.laws.specs.Least.{Least, Pair, PairAtMost, by_first, by_second, ListAtMost, CycleAtMost, fewer, as_many, LeastNumber}

-- two least witnesses by an order in which two that are each at most the other are one
pub least_one :
    {A : Type 0} {AtMost : A → A → Type 0} {Shows : A → Type 0} → ((a b : A) → AtMost a b → AtMost b a → a ≡ b) → {x y : Option A} → Least AtMost Shows x → Least AtMost Shows y → x ≡ y
least_one anti (Least.absent f) (Least.absent g) = refl
least_one anti (Least.absent f) (Least.least {a = b} q g) = absurd (f b q)
least_one anti (Least.least {a = a} p f) (Least.absent g) = absurd (g a p)
least_one anti (Least.least {a = a} p f) (Least.least {a = b} q g) = ap Some (anti a b (f b q) (g a p))

pub number_one : (a b : ℕ) → a ≤ b → b ≤ a → a ≡ b
number_one a b h k = omega arith

pub pair_one : (p q : Pair) → PairAtMost p q → PairAtMost q p → p ≡ q
pair_one p q (by_first h) (by_first k) = absurd (omega arith)
pair_one p q (by_first h) (by_second e k) = absurd (omega arith)
pair_one p q (by_second e h) (by_first k) = absurd (omega arith)
pair_one p q (by_second e h) (by_second f k) =
    let s : p.second ≡ q.second = omega arith in
    λ i. record { first = e i; second = s i }

list_one : (l m : List ℕ) → length l ≡ length m → ListAtMost l m → ListAtMost m l → l ≡ m
list_one [] [] e p q = refl
list_one [] (b ∷ m) e p q = absurd q
list_one (a ∷ l) [] e p q = absurd p
list_one (a ∷ l) (b ∷ m) e p q = go (list_one l m (omega arith)) p q
  where
    go : (ListAtMost l m → ListAtMost m l → l ≡ m) → (a < b) ⊎ ((a ≡ b) × ListAtMost l m) → (b < a) ⊎ ((b ≡ a) × ListAtMost m l) → a ∷ l ≡ b ∷ m
    go ih (inl x) (inl y) = absurd (omega arith)
    go ih (inl x) (inr y) = absurd (omega arith)
    go ih (inr x) (inl y) = absurd (omega arith)
    go ih (inr x) (inr y) = ap₂ (λ (h : ℕ) (t : List ℕ). h ∷ t) x.0 (ih x.1 y.1)

pub cycle_one : (c d : List ℕ) → CycleAtMost c d → CycleAtMost d c → c ≡ d
cycle_one c d (fewer h) (fewer k) = absurd (omega arith)
cycle_one c d (fewer h) (as_many e k) = absurd (omega arith)
cycle_one c d (as_many e h) (fewer k) = absurd (omega arith)
cycle_one c d (as_many e h) (as_many f k) = list_one c d e h k

pub number_unique : {P : ℕ → Type 0} {x y : Option ℕ} → LeastNumber P x → LeastNumber P y → x ≡ y
number_unique = least_one number_one

-- what shows the one finding shows the other, and the other way round
pub least_iff :
    {A : Type 0} {AtMost : A → A → Type 0} {P Q : A → Type 0} → ((a : A) → P a → Q a) → ((a : A) → Q a → P a) → {x : Option A} → Least AtMost P x → Least AtMost Q x
least_iff f g (Least.absent n) = Least.absent (λ a q. n a (g a q))
least_iff f g (Least.least {a = a} p l) = Least.least (f a p) (λ b q. l b (g b q))

walk_to : {R S : ℕ → ℕ → Type 0} → ((a b : ℕ) → R a b → S a b) → (a : ℕ) (xs : List ℕ) (b : ℕ) → Walk R a xs b → Walk S a xs b
walk_to f a [] b w = f a b w
walk_to f a (x ∷ xs) b w = (f a x w.0, walk_to f x xs b w.1)

pub cycle_to : {R S : ℕ → ℕ → Type 0} → ((a b : ℕ) → R a b → S a b) → (c : List ℕ) → IsCycle R c → IsCycle S c
cycle_to f [] c = c
cycle_to f (a ∷ xs) c = (c.0, walk_to f a xs a c.1)

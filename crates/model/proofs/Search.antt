-- The search for the least number and the least pair that pass a test, by larger and larger bounds.
use Rattle.std.specs.Prelude.{Option, None, Some}
use mathlib.Core.Path.{◌≡◌, refl, sym, subst}
use mathlib.Core.Logic.{◌⊎◌, inl, inr, ◌↔◌}
use mathlib.Core.Bool.{Bool, true, false}
use Prim.Native.Nat.{ℕ, zero, suc, ◌<◌, ◌≤◌}
use native.Mathlib.Omega.{arith}
use Rattle.laws.specs.Says.{Says}
use Rattle.laws.specs.Least.{Least, LeastNumber, LeastPair, Pair, PairAtMost, by_first, by_second}
use Rattle.laws.proofs.Steps.{Within}
use Rattle.laws.proofs.Least.{least_iff}
use Rattle.laws.proofs.Closure.{tri}
use Rattle.model.proofs.MirrorRows.{Tells}

module _ {A : Type 0} where
  abbrev or_else : Option A → Option A → Option A
  or_else (Some a) y = Some a
  or_else None y = y

  -- where all of one kind are at most all of another, the least of both is the least of the one, or else of the other
  least_or_else :
      {AtMost : A → A → Type 0} {P Q : A → Type 0} → ((a b : A) → P a → Q b → AtMost a b) → {x y : Option A}
      → Least AtMost P x → Least AtMost Q y → Least AtMost (λ a. P a ⊎ Q a) (or_else x y)
  least_or_else f (Least.absent p) (Least.absent q) = Least.absent (λ a z. elim z [ inl h ↦ p a h | inr h ↦ q a h ])
  least_or_else f (Least.absent p) (Least.least q l) =
      Least.least (inr q) (λ b z. elim z [ inl h ↦ absurd (p b h) | inr h ↦ l b h ])
  least_or_else f (Least.least {a = a} p l) y = Least.least (inl p) (λ b z. elim z [ inl h ↦ l b h | inr h ↦ f a b p h ])

-- one bound more is one number more
one_more : {P : Type 0} (m n : ℕ) → ((m < suc n) × P) ↔ (((m < n) × P) ⊎ ((m ≡ n) × P))
one_more {P} m n = (λ (h, p). tri {C = ((m < n) × P) ⊎ ((m ≡ n) × P)} m n (λ l. inl (l, p)) (λ e. inr (e, p)) (λ g. absurd (omega arith)), back)
  where
    back : ((m < n) × P) ⊎ ((m ≡ n) × P) → (m < suc n) × P
    back (inl (l, p)) = (omega arith, p)
    back (inr (e, p)) = (omega arith, p)

-- ---- numbers

abbrev only_if : Bool → ℕ → Option ℕ
only_if true n = Some n
only_if false n = None

abbrev pub first_below : ℕ → (ℕ → Bool) → Option ℕ
first_below zero f = None
first_below (suc n) f =
    let last = only_if (f n) n in
    or_else (first_below n f) last

only_least : {b : Bool} {P : ℕ → Type 0} (n : ℕ) → Says b (P n) → LeastNumber (λ m. (m ≡ n) × P m) (only_if b n)
only_least {b = true} n s = Least.least (refl, s.to tt) (λ m (e, p). omega arith)
only_least {b = false} {P} n s = Least.absent (λ m (e, p). s.from (subst P e p))

first_below_lem :
    {f : ℕ → Bool} {P : ℕ → Type 0} (n : ℕ) → ((m : ℕ) → m < n → Says (f m) (P m)) → LeastNumber (λ m. (m < n) × P m) (first_below n f)
first_below_lem zero s = Least.absent (λ m (h, p). omega arith)
first_below_lem (suc n) s =
    least_iff (λ m. (one_more m n).1) (λ m. (one_more m n).0)
    (least_or_else (λ a b (h, p) (e, q). omega arith) (first_below_lem n (λ m h. s m (omega arith))) (only_least n (s n (omega arith))))

pub first_least :
    {f : ℕ → Bool} {P : ℕ → Type 0} (n : ℕ) → ((m : ℕ) → P m → m < n) → ((m : ℕ) → m < n → Says (f m) (P m)) → LeastNumber P (first_below n f)
first_least n inside s = least_iff (λ m (h, p). p) (λ m p. (inside m p, p)) (first_below_lem n s)

-- ---- pairs

abbrev paired_with : ℕ → Option ℕ → Option Pair
paired_with a None = None
paired_with a (Some b) = Some (record { first = a; second = b })

-- the least pair whose first number is below k and whose second is below n
abbrev pair_below : ℕ → ℕ → (ℕ → ℕ → Bool) → Option Pair
pair_below n zero f = None
pair_below n (suc k) f =
    let last = paired_with k (first_below n (f k)) in
    or_else (pair_below n k f) last

abbrev pub first_pair : ℕ → (ℕ → ℕ → Bool) → Option Pair
first_pair n f = pair_below n n f

module _ {n : ℕ} {f : ℕ → ℕ → Bool} {R : ℕ → ℕ → Type 0} (s : Tells n f R) where
  with_least :
      (a : ℕ) {o : Option ℕ} → LeastNumber (λ b. (b < n) × R a b) o → Least PairAtMost (λ p. (p.first ≡ a) × ((p.second < n) × R p.first p.second)) (paired_with a o)
  with_least a (Least.absent h) =
      Least.absent (λ p (e, (l, r)). h p.second (l, subst (λ (x : ℕ). R x p.second) e r))
  with_least a (Least.least {a = b} p h) =
      Least.least {a = record { first = a; second = b }} (refl, p)
      (λ q (e, (l, r)). by_second (sym e) (h q.second (l, subst (λ (x : ℕ). R x q.second) e r)))

  pair_below_lem : (k : ℕ) → k ≤ n → Least PairAtMost (λ p. (p.first < k) × ((p.second < n) × R p.first p.second)) (pair_below n k f)
  pair_below_lem zero h = Least.absent (λ p (l, r). omega arith)
  pair_below_lem (suc k) h =
      least_iff (λ p. (one_more p.first k).1) (λ p. (one_more p.first k).0)
      (least_or_else (λ a b (l, p) (e, q). by_first (omega arith)) (pair_below_lem k (omega arith)) (with_least k (first_below_lem n (λ b l. s.each k b (omega arith) l))))

  pub first_pair_least : Within n R → LeastPair R (first_pair n f)
  first_pair_least w =
      least_iff (λ p (l, (h, r)). r) (λ p r. (w.left r, (w.right r, r))) (pair_below_lem n (omega arith))

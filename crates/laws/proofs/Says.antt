-- How tests that tell facts are put together.
use mathlib.Core.Path.{◌≡◌, refl, sym, subst}
use mathlib.Core.Logic.{◌⊎◌, inl, inr}
use mathlib.Core.Bool.{Bool, true, false, not, ◌&&◌, ◌||◌}
use Prim.Native.Nat.{ℕ, zero, suc, ◌<◌, ◌≤◌}
use native.Mathlib.Nat.{not-suc-le-zero}
use native.Mathlib.Omega.{arith}
use native.Mathlib.Decide.{ℕ_discrete}
use lib.Dec.{T, eqb, eqb→eq, eqb_refl, ltb, ltb→lt, lt→ltb, leb, leb→le, le→leb}
use Rattle.laws.specs.Says.{Says, any_below}

pub says_yes : {P : Type 0} → P → Says true P
says_yes p = record { to = λ _. p; from = λ _. tt }

pub says_no : {P : Type 0} → ¬ P → Says false P
says_no n = record { to = λ x. absurd x; from = n }

-- what a test that passed, and one that failed, shows
pub said : {b : Bool} {P : Type 0} → Says b P → b ≡ true → P
said s e = s.to (subst T (sym e) tt)

pub denied : {b : Bool} {P : Type 0} → Says b P → b ≡ false → ¬ P
denied s e p = subst T e (s.from p)

pub says_dec : {b : Bool} {P : Type 0} → Says b P → Dec P
says_dec {b = true} s = yes (s.to tt)
says_dec {b = false} s = no (λ p. s.from p)

-- what is not false is true, where it can be told
pub by_dec : {P : Type 0} → Dec P → ¬ ¬ P → P
by_dec (yes p) n = p
by_dec (no p) n = absurd (n p)

pub says_T : (b : Bool) → Says b (T b)
says_T b = record { to = λ x. x; from = λ x. x }

-- a test that is another
pub says_is : {b c : Bool} → b ≡ c → Says b (T c)
says_is {c = c} e = subst (λ (x : Bool). Says x (T c)) (sym e) (says_T c)

-- two tests that tell one fact are one
pub says_one : {a b : Bool} {P : Type 0} → Says a P → Says b P → a ≡ b
says_one {a = true} {b = true} s r = refl
says_one {a = true} {b = false} s r = absurd (r.from (s.to tt))
says_one {a = false} {b = true} s r = absurd (s.from (r.to tt))
says_one {a = false} {b = false} s r = refl

pub says_eq : (a b : ℕ) → Says (eqb a b) (a ≡ b)
says_eq a b = record { to = eqb→eq a b; from = λ e. subst (λ x. T (eqb a x)) e (eqb_refl a) }

pub says_lt : (a b : ℕ) → Says (ltb a b) (a < b)
says_lt a b = record { to = ltb→lt a b; from = lt→ltb a b }

pub says_le : (a b : ℕ) → Says (leb a b) (a ≤ b)
says_le a b = record { to = leb→le a b; from = le→leb a b }

pub says_iff : {b : Bool} {P Q : Type 0} → (P → Q) → (Q → P) → Says b P → Says b Q
says_iff f g s = record { to = λ x. f (s.to x); from = λ q. s.from (g q) }

pub says_not : {b : Bool} {P : Type 0} → Says b P → Says (not b) (¬ P)
says_not {b = true} s = record { to = λ x. absurd x; from = λ n. n (s.to tt) }
says_not {b = false} s = record { to = λ _ p. s.from p; from = λ _. tt }

pub says_and : {a b : Bool} {P Q : Type 0} → Says a P → Says b Q → Says (a && b) (P × Q)
says_and {a = true} s r = record { to = λ x. (s.to tt, r.to x); from = λ z. r.from z.1 }
says_and {a = false} s r = record { to = λ x. absurd x; from = λ z. s.from z.0 }

-- the second test is asked only where the first fact holds
pub says_and_then : {a b : Bool} {P Q : Type 0} → Says a P → (P → Says b Q) → Says (a && b) (P × Q)
says_and_then {a = true} s r = let p = s.to tt in record { to = λ x. (p, (r p).to x); from = λ z. (r p).from z.1 }
says_and_then {a = false} s r = record { to = λ x. absurd x; from = λ z. s.from z.0 }

pub says_or : {a b : Bool} {P Q : Type 0} → Says a P → Says b Q → Says (a || b) (P ⊎ Q)
says_or {a = true} s r = record { to = λ _. inl (s.to tt); from = λ _. tt }
says_or {a = false} s r =
    record { to = λ x. inr (r.to x); from = λ x. elim x [ inl p ↦ absurd (s.from p) | inr q ↦ r.from q ] }

-- a test for "if P then Q"
pub says_if : {a b : Bool} {P Q : Type 0} → Says a P → Says b Q → Says (not a || b) (P → Q)
says_if {a = true} s r = record { to = λ x _. r.to x; from = λ f. r.from (f (s.to tt)) }
says_if {a = false} s r = record { to = λ _ p. absurd (s.from p); from = λ _. tt }

-- ---- bounded search

or_left : (a b : Bool) → T a → T (a || b)
or_left true b h = tt
or_left false b h = absurd h

or_right : (a b : Bool) → T b → T (a || b)
or_right true b h = tt
or_right false b h = h

pub any_in : (f : ℕ → Bool) (n : ℕ) → T (any_below f n) → (i : ℕ) × ((i < n) × T (f i))
unfolding any_below
any_in f zero h = absurd h
any_in f (suc n) h = go (any_in f n) (any_below f n) refl h
  where
    go : (T (any_below f n) → (i : ℕ) × ((i < n) × T (f i))) → (b : Bool) → any_below f n ≡ b → T (b || f n) → (i : ℕ) × ((i < suc n) × T (f i))
    go ih true e x =
        let (i, (l, q)) = ih (subst T (sym e) tt) in
        (i, (omega arith, q))
    go ih false e x = (n, (omega arith, x))

pub any_of : (f : ℕ → Bool) (n i : ℕ) → i < n → T (f i) → T (any_below f n)
unfolding any_below
any_of f zero i l h = absurd (not-suc-le-zero l)
any_of f (suc n) i l h = go (ℕ_discrete i n) (λ k. any_of f n i k h)
  where
    go : Dec (i ≡ n) → (i < n → T (any_below f n)) → T (any_below f n || f n)
    go (yes e) rec = or_right (any_below f n) (f n) (subst (λ (k : ℕ). T (f k)) e h)
    go (no e) rec = or_left (any_below f n) (f n) (rec (omega arith))

-- some number below n has P
pub says_any_below :
    {f : ℕ → Bool} {n : ℕ} {P : ℕ → Type 0} → ((i : ℕ) → i < n → Says (f i) (P i)) → Says (any_below f n) ((i : ℕ) × ((i < n) × P i))
says_any_below {f} {n} s = record {
  to = λ x.
      let (i, (l, q)) = any_in f n x in
      (i, (l, (s i l).to q));
  from = λ z. any_of f n z.0 z.1.0 ((s z.0 z.1.0).from z.1.1);
}

-- some number has P, where only numbers below n can
pub says_any :
    {f : ℕ → Bool} {n : ℕ} {P : ℕ → Type 0} → ((i : ℕ) → P i → i < n) → ((i : ℕ) → i < n → Says (f i) (P i)) → Says (any_below f n) ((i : ℕ) × P i)
says_any inside s = says_iff (λ z. (z.0, z.1.1)) (λ z. (z.0, (inside z.0 z.1, z.1))) (says_any_below s)

-- every number below n has P
pub says_all :
    {f : ℕ → Bool} {n : ℕ} {P : ℕ → Type 0} → ((i : ℕ) → i < n → Says (f i) (P i)) → Says (not (any_below (λ i. not (f i)) n)) ((i : ℕ) → i < n → P i)
says_all {f} {n} {P} s =
    says_iff (λ none i l. by i l (says_dec (s i l)) none) (λ all z. z.1.1 (all z.0 z.1.0))
    (says_not (says_any_below (λ i l. says_not (s i l))))
  where
    by : (i : ℕ) → i < n → Dec (P i) → ¬ ((i : ℕ) × ((i < n) × ¬ P i)) → P i
    by i l (yes p) none = p
    by i l (no np) none = absurd (none (i, (l, np)))

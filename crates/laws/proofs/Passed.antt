-- Searches upward: what was passed, and the least that is found.
use Rattle.std.specs.Prelude.{None, Some}
use mathlib.Core.Path.{◌≡◌, sym, subst}
use Prim.Native.Nat.{ℕ, ◌+◌, ◌≤◌, ◌<◌}
use native.Mathlib.Omega.{arith}
use native.Mathlib.Decide.{dec_lt}
use Rattle.laws.specs.Least.{Least, Pair, PairAtMost, by_first, by_second, LeastNumber, LeastPair}
use Rattle.laws.proofs.Closure.{tri}
use Rattle.laws.proofs.Steps.{Within}

pub number_found : {P : ℕ → Type 0} {k : ℕ} → ((j : ℕ) → j < k → ¬ P j) → P k → LeastNumber P (Some k)
number_found {P} {k} none_below p = Least.least p (λ j q. by j q (dec_lt j k))
  where
    by : (j : ℕ) → P j → Dec (j < k) → k ≤ j
    by j q (yes l) = absurd (none_below j l q)
    by j q (no l) = omega arith

-- P holds of no pair before p, q
pub record Passed (P : ℕ → ℕ → Type 0) (p q : ℕ) : Type 0 where
  pub rows : (x y : ℕ) → x < p → ¬ P x y
  pub here : (y : ℕ) → y < q → ¬ P p y

module _ {P : ℕ → ℕ → Type 0} where
  pub passed_none : Passed P 0 0
  passed_none = record { rows = λ x y l. absurd (omega arith); here = λ y l. absurd (omega arith) }

  -- one number more
  pub passed_more : {p q : ℕ} → ¬ P p q → Passed P p q → Passed P p (q + 1)
  passed_more {p} {q} n k = record { rows = k.rows; here = λ y l. tri y q (k.here y) (λ e s. n (subst (P p) e s)) (λ g. absurd (omega arith)) }

  -- a row that has none of them, and a row that is passed to its end
  pub passed_over : {p q : ℕ} → ((y : ℕ) → ¬ P p y) → Passed P p q → Passed P (p + 1) 0
  passed_over {p} never k = record {
    rows = λ x y l. tri x p (k.rows x y) (λ e s. never y (subst (λ (z : ℕ). P z y) e s)) (λ g. absurd (omega arith));
    here = λ y l. absurd (omega arith);
  }

  pub passed_row : {n p q : ℕ} → Within n P → n ≤ q → Passed P p q → Passed P (p + 1) 0
  passed_row w h k = passed_over (λ y s. k.here y (omega (arith, w.right s)) s) k

  pub passed_all : {n p q : ℕ} → Within n P → n ≤ p → Passed P p q → LeastPair P None
  passed_all w h k = Least.absent (λ z s. k.rows z.first z.second (omega (arith, w.left s)) s)

  pub passed_found : {p q : ℕ} → P p q → Passed P p q → LeastPair P (Some (record { first = p; second = q }))
  passed_found {p} {q} s k = Least.least {a = record { first = p; second = q }} s (λ z t.
      tri z.first p (λ l. absurd (k.rows z.first z.second l t)) (λ e. same z e t (dec_lt z.second q)) (λ g. by_first g))
    where
      same : (z : Pair) → z.first ≡ p → P z.first z.second → Dec (z.second < q) → PairAtMost (record { first = p; second = q }) z
      same z e t (yes l) = absurd (k.here z.second l (subst (λ (x : ℕ). P x z.second) e t))
      same z e t (no l) = by_second (sym e) (omega arith)

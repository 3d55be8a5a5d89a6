-- Closures that leave what they captured: `any` over the numbers below n, and an array made number by number.
use mathlib.Core.Path.{◌≡◌, refl, sym, subst}
use mathlib.Core.Bool.{Bool, true, false}
use mathlib.Core.List.{List}
use Prim.Native.Nat.{ℕ, zero, suc, ◌+◌, ◌<◌, ◌≤◌}
use native.Mathlib.Omega.{arith}
use native.Mathlib.Decide.{ℕ_discrete}
use lib.ListN.{get_or, length}
use denote.Param.Members.{Mut}
use Rattle.std.specs.Bool.{MatchBool}
use Rattle.std.specs.Fn.{Called}
use Rattle.std.specs.Iterator.{ChecksAny}
use Rattle.std.specs.List.{range_with_len, HoldsAt, AllWithin}
use Rattle.std.specs.Array.{IsFromFnResultFrom, IsFromFnResult}
use Rattle.std.proofs.iter.Yields.{nat_range_steps}
use Rattle.std.proofs.lemmas.Iterator.{cases_from_any, YieldsList-from_range}
use Rattle.std.proofs.lemmas.List.FromFn.{length-range_with_len, get_or-range_with_len}
use Rattle.laws.specs.Says.{Says}
use Rattle.laws.proofs.Says.{says_yes, says_no, said, denied}

module _ {F : Type 0} {g : Mut F (ℕ × Unit {0}) Bool} {f : F} where
  -- some number has P, where only numbers below n can
  pub says_some :
      (P : ℕ → Type 0) {s u : _} {n : ℕ} {r : Bool} → ChecksAny nat_range_steps g s f r u → s ≡ record { start = 0; end = n }
      → ((x : ℕ) → P x → x < n) → ((x : ℕ) (b : Bool) (q : F) → Called g f (x, tt) b q → (q ≡ f) × Says b (P x)) → Says r ((x : ℕ) × P x)
  says_some P {u = u} {n = n} {r = r} ran is low tells =
      by r
      (cases_from_any u f r P (λ x. ¬ P x) ran (YieldsList-from_range 0 n n is (omega arith)) (λ x q k. said (tells x true q k).1 refl)
      (λ x q k. ((tells x false q k).0, denied (tells x false q k).1 refl)))
    where
      by : (b : Bool) → MatchBool b ((k : ℕ) × (k < length (range_with_len 0 n)) × HoldsAt P (range_with_len 0 n) k) (AllWithin (λ x. ¬ P x) (range_with_len 0 n) 0 (length (range_with_len 0 n))) → Says b ((x : ℕ) × P x)
      by true (k, l, h) = says_yes (_, h 0)
      by false none = says_no (λ (x, p). not_at x p (omega (arith, get_or-range_with_len 0 n x 0 (low x p))) p)
        where
          not_at : (x : ℕ) → P x → get_or (range_with_len 0 n) x 0 ≡ x → ¬ P x
          not_at x p e = subst (λ (y : ℕ). ¬ P y) e (none x 0 (omega arith) (omega (arith, length-range_with_len 0 n, low x p)))

-- what the closure tells of each number and its element
pub made_at :
    {F B : Type 0} {g : Mut F (ℕ × Unit {0}) B} {f : F} {ys : List B} {n : ℕ} (Q : ℕ → B → Type 0) → IsFromFnResult g f ys n
    → ((x : ℕ) (y : B) (q : F) → Called g f (x, tt) y q → (q ≡ f) × Q x y) → (k : ℕ) (d : B) → k < n → Q k (get_or ys k d)
made_at {F} {B} {g} {f} {ys} {n} Q made tells k d l = from 0 n f refl made.each (omega arith) (omega arith)
  where
    from : (i m : ℕ) (p : F) → p ≡ f → IsFromFnResultFrom g p ys i m → i ≤ k → k < i + m → Q k (get_or ys k d)
    from i zero p e _ low high = absurd (omega arith)
    from i (suc m) p e (q, y, at, called, rest) low high =
        let told = tells i y q (subst (λ (h : F). Called g h (i, tt) y q) e called) in
        elim (ℕ_discrete i k) [
          | yes h ↦ subst (λ (j : ℕ). Q j (get_or ys j d)) h (subst (Q i) (sym (at.1 d)) told.1)
          | no h ↦ from (i + 1) m q told.0 rest (omega arith) (omega arith)
        ]

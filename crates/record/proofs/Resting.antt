-- The least byte that does not rest and should: what is known of it, and what it tells of all of them.
use mathlib.Core.Path.{◌≡◌, refl, sym, subst, ◌∙◌}
use mathlib.Core.Bool.{Bool, true, false, ◌&&◌}
use mathlib.Core.List.{List}
use Prim.Native.Nat.{ℕ, zero, suc, ◌+◌, ◌<◌, ◌≤◌}
use native.Mathlib.Omega.{arith}
use native.Mathlib.Decide.{dec_lt}
use lib.Dec.{T}
use Rattle.laws.specs.Says.{Says}
use Rattle.laws.proofs.Says.{says_T}
use Rattle.record.specs.Form.{pick, all_from, least_failing, rests_at, rested, least_restless}

-- m is the least of the n numbers from i on that fails, or the one after them
pub record FirstFailing (f : ℕ → Bool) (i n m : ℕ) : Type 0 where
  pub from : i ≤ m
  pub within : m ≤ i + n
  pub before : (j : ℕ) → i ≤ j → j < m → T (f j)
  pub there : m < i + n → ¬ T (f m)

first_failing : (f : ℕ → Bool) (n i : ℕ) → FirstFailing f i n (least_failing f i n)
first_failing f zero i =
    record { from = omega arith; within = omega arith; before = λ j l h. absurd (omega arith); there = λ h. absurd (omega arith) }
first_failing f (suc n) i = go (f i) (says_T (f i)) (first_failing f n (suc i))
  where
    go : (t : Bool) → Says t (T (f i)) → FirstFailing f (suc i) n (least_failing f (suc i) n) → FirstFailing f i (suc n) (pick t (least_failing f (suc i) n) i)
    go true here later = record {
      from = omega (arith, later.from);
      within = omega (arith, later.within);
      before = λ j l h. below j l h (dec_lt i j);
      there = λ h. later.there (omega arith);
    }
      where
        below : (j : ℕ) → i ≤ j → j < least_failing f (suc i) n → Dec (i < j) → T (f j)
        below j l h (yes m) = later.before j (omega arith) h
        below j l h (no m) =
            let same : i ≡ j = omega arith in
            subst (λ (k : ℕ). T (f k)) same (here.to tt)
    go false here later =
        record { from = omega arith; within = omega arith; before = λ j l h. absurd (omega arith); there = λ h t. here.from t }

-- all of them pass, or one fails
all_pass : (f : ℕ → Bool) (n i : ℕ) → i + n ≤ least_failing f i n → all_from f i n ≡ true
all_pass f zero i h = refl
all_pass f (suc n) i h = go (f i) h (all_pass f n (suc i))
  where
    go : (t : Bool) → i + suc n ≤ pick t (least_failing f (suc i) n) i → (suc i + n ≤ least_failing f (suc i) n → all_from f (suc i) n ≡ true) → t && all_from f (suc i) n ≡ true
    go true h later = later (omega arith)
    go false h later = absurd (omega arith)

one_fails : (f : ℕ → Bool) (n i : ℕ) → least_failing f i n < i + n → all_from f i n ≡ false
one_fails f zero i h = absurd (omega arith)
one_fails f (suc n) i h = go (f i) h (one_fails f n (suc i))
  where
    go : (t : Bool) → pick t (least_failing f (suc i) n) i < i + suc n → (least_failing f (suc i) n < suc i + n → all_from f (suc i) n ≡ false) → t && all_from f (suc i) n ≡ false
    go true h later = later (omega arith)
    go false h later = refl

module _ (b : List ℕ) where
  pub least_first : FirstFailing (rests_at b) 6 10 (least_restless b)
  unfolding least_restless
  least_first = first_failing (rests_at b) 10 6

  pub all_rest : 16 ≤ least_restless b → rested b ≡ true
  unfolding least_restless
  all_rest h = all_pass (rests_at b) 10 6 h

  pub one_restless : least_restless b < 16 → rested b ≡ false
  unfolding least_restless
  one_restless h = one_fails (rests_at b) 10 6 h

  pub some_restless : rested b ≡ false → least_restless b < 16
  some_restless e = go (dec_lt (least_restless b) 16)
    where
      go : Dec (least_restless b < 16) → least_restless b < 16
      go (yes h) = h
      go (no h) = absurd (subst T (sym (all_rest (omega arith)) ∙ e) tt)

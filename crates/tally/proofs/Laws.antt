-- The figures over two lists of answers, one after the other, are the sums; and none is more than the answers are.
use mathlib.Core.Path.{◌≡◌, refl, ap₂}
use mathlib.Core.Bool.{Bool, true, false}
use mathlib.Core.List.{List, [], ◌∷◌, ◌++◌, map}
use Prim.Native.Nat.{ℕ, zero, suc, ◌+◌, ◌<◌, ◌≤◌, ◌^◌, max}
use native.Mathlib.Omega.{arith}
use lib.ListN.{length, get_or, length-append}
use Rattle.findings.specs.declared.Verdict.TheVariants.{Undefined, Inconsistent, Consistent}
use Rattle.findings.specs.Family.{all_in_order}
use Rattle.tally.specs.Answer.{Answer}
use Rattle.tally.specs.Figures.{one_if, how_many, numbers, refused_with, finds, judged_to, largest_of, figures_of}
use Rattle.tally.specs.Sums.{add_each, sums, Small}

-- ---- the numbers of refusals

up_from : ℕ → ℕ → List ℕ
up_from n zero = []
up_from n (suc k) = n ∷ up_from (n + 1) k

up_at : (n k i : ℕ) → i < k → get_or (up_from n k) i 0 ≡ i + n
unfolding up_from
up_at n zero i h = absurd (omega arith)
up_at n (suc k) zero h = omega arith
up_at n (suc k) (suc i) h = omega (arith, up_at (n + 1) k i (omega arith))

-- number 1 stands at place 0
pub number_at : (i : ℕ) → i < length numbers → get_or numbers i 0 ≡ i + 1
unfolding up_from
number_at i h = up_at 1 (length numbers) i h

-- ---- counts

module _ (xs ys : List Answer) where
  pub count_join : (such : Answer → Bool) → how_many such (xs ++ ys) ≡ how_many such xs + how_many such ys
  count_join such = go xs
    where
      go : (l : List Answer) → how_many such (l ++ ys) ≡ how_many such l + how_many such ys
      go [] = omega arith
      go (x ∷ l) = omega (arith, go l)

  -- one for each of a list
  counts_join :
      {A : Type 0} (such : A → Answer → Bool) (l : List A)
      → map (λ a. how_many (such a) (xs ++ ys)) l ≡ add_each (map (λ a. how_many (such a) xs) l) (map (λ a. how_many (such a) ys) l)
  counts_join such [] = refl
  counts_join such (a ∷ l) = ap₂ ◌∷◌ (count_join (such a)) (counts_join such l)

-- ---- the largest

largest_join : (xs ys : List Answer) → largest_of (xs ++ ys) ≡ max (largest_of xs) (largest_of ys)
largest_join [] ys = omega arith
largest_join (x ∷ xs) ys = omega (arith, largest_join xs ys)

-- ---- all of them

pub figures_join : (xs ys : List Answer) → figures_of (xs ++ ys) ≡ sums (figures_of xs) (figures_of ys)
unfolding figures_of sums
figures_join xs ys = λ i. record {
  tables = length-append xs ys i;
  refused = counts_join xs ys refused_with numbers i;
  found = counts_join xs ys finds all_in_order i;
  consistent = count_join xs ys (judged_to Consistent) i;
  inconsistent = count_join xs ys (judged_to Inconsistent) i;
  undefined = count_join xs ys (judged_to Undefined) i;
  largest = largest_join xs ys i;
}

-- ---- no count is more than the answers are

pub count_within : (such : Answer → Bool) (xs : List Answer) → how_many such xs ≤ length xs
count_within such [] = omega arith
count_within such (x ∷ xs) = omega (arith, one_within (such x), count_within such xs)
  where
    one_within : (b : Bool) → one_if b ≤ 1
    one_within true = omega arith
    one_within false = omega arith

pub counts_within : {A : Type 0} (such : A → Answer → Bool) (xs : List Answer) (l : List A) (k : ℕ) → get_or (map (λ a. how_many (such a) xs) l) k 0 ≤ length xs
counts_within such xs [] k = omega arith
counts_within such xs (a ∷ l) zero = count_within (such a) xs
counts_within such xs (a ∷ l) (suc k) = counts_within such xs l k

pub figures_small : (xs : List Answer) → length xs < 2 ^ 63 → Small (figures_of xs)
unfolding figures_of
figures_small xs few = record {
  tables = few;
  refused = record { small = λ k. let h = counts_within refused_with xs numbers k in omega arith };
  found = record { small = λ k. let h = counts_within finds xs all_in_order k in omega arith };
  consistent = omega (arith, count_within (judged_to Consistent) xs);
  inconsistent = omega (arith, count_within (judged_to Inconsistent) xs);
  undefined = omega (arith, count_within (judged_to Undefined) xs);
}

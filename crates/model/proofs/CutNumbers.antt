-- The new number of each record of a cut, and the old number of each new one.
use mathlib.Core.Path.{◌≡◌, refl, sym, ap, subst, ◌∙◌}
use mathlib.Core.Logic.{◌↔◌}
use mathlib.Core.Bool.{Bool, true, false, not, ◌&&◌}
use Prim.Native.Nat.{ℕ, zero, suc, ◌+◌, ◌<◌, ◌≤◌}
use native.Mathlib.Numerals.{add-one}
use native.Mathlib.Nat.{not-suc-le-zero}
use native.Mathlib.Omega.{arith}
use native.Mathlib.Decide.{dec_lt}
use lib.Dec.{T, leb}
use Rattle.laws.specs.Says.{Says}
use Rattle.laws.proofs.Says.{says_and, says_not, says_T, says_le, says_dec}
use Rattle.laws.proofs.Closure.{tri}
use Rattle.model.specs.Cut.{one_more_if, new_number}

-- ---- new numbers

one_more : (b : Bool) (n : ℕ) → T b → one_more_if b n ≡ n + 1
one_more true n h = omega arith
one_more false n h = absurd h

no_more : (b : Bool) (n : ℕ) → ¬ T b → one_more_if b n ≡ n
no_more true n h = absurd (h tt)
no_more false n h = refl

rises : (b : Bool) (n : ℕ) → (n ≤ one_more_if b n) × (one_more_if b n ≤ n + 1)
rises true n = omega arith
rises false n = omega arith

module _ (k : ℕ → Bool) where
  -- for a loop: the next record is kept, or not
  pub new_after_kept : (n : ℕ) → T (k n) → new_number k (n + 1) ≡ new_number k n + 1
  new_after_kept n h = ap (new_number k) (add-one n) ∙ one_more (k n) (new_number k n) h

  pub new_after_dropped : (n : ℕ) → ¬ T (k n) → new_number k (n + 1) ≡ new_number k n
  new_after_dropped n h = ap (new_number k) (add-one n) ∙ no_more (k n) (new_number k n) h

  pub new_at_most : (n : ℕ) → new_number k n ≤ n
  new_at_most zero = omega arith
  new_at_most (suc n) = omega (arith, rises (k n) (new_number k n), new_at_most n)

  pub new_rises : (m n : ℕ) → m ≤ n → new_number k m ≤ new_number k n
  new_rises m zero l = let e : m ≡ zero = omega arith in omega (arith, ap (new_number k) e)
  new_rises m (suc n) l = go (dec_lt n m) (new_rises m n)
    where
      go : Dec (n < m) → (m ≤ n → new_number k m ≤ new_number k n) → new_number k m ≤ new_number k (suc n)
      go (yes h) ih = let e : m ≡ suc n = omega arith in omega (arith, ap (new_number k) e)
      go (no h) ih = omega (arith, ih (omega arith), rises (k n) (new_number k n))

  -- a kept record's new number is below that of every later record
  pub new_below : (m n : ℕ) → m < n → T (k m) → new_number k m < new_number k n
  new_below m n l h = omega (arith, one_more (k m) (new_number k m) h, new_rises (suc m) n l)

-- ---- old numbers

-- record n is skipped unless it is kept: numbers from n on move up by one
abbrev pub skipping : Bool → ℕ → ℕ → ℕ
skipping b n x = one_more_if (not b && leb n x) x

-- the old number of record i of a cut of n records; past the cut's end it goes on past the table's end
abbrev pub old_number : (ℕ → Bool) → ℕ → ℕ → ℕ
old_number k zero i = i
old_number k (suc n) i = skipping (k n) n (old_number k n i)

skips : (b : Bool) (n x : ℕ) → Says (not b && leb n x) (¬ T b × (n ≤ x))
skips b n x = says_and (says_not (says_T b)) (says_le n x)

skip_kept : (b : Bool) (n x : ℕ) → T b → skipping b n x ≡ x
skip_kept b n x h = no_more (not b && leb n x) x (λ s. ((skips b n x).to s).0 h)

skip_before : (b : Bool) (n x : ℕ) → x < n → skipping b n x ≡ x
skip_before b n x l = no_more (not b && leb n x) x (λ s. absurd (omega (arith, ((skips b n x).to s).1)))

skip_from : (b : Bool) (n x : ℕ) → ¬ T b → n ≤ x → skipping b n x ≡ x + 1
skip_from b n x h l = one_more (not b && leb n x) x ((skips b n x).from (h, l))

skip_rises : (b : Bool) (n x y : ℕ) → x < y → skipping b n x < skipping b n y
skip_rises true n x y l = l
skip_rises false n x y l = go (dec_lt x n)
  where
    go : Dec (x < n) → skipping false n x < skipping false n y
    go (yes h) = omega (arith, skip_before false n x h, rises (leb n y) y)
    go (no h) = omega (arith, skip_from false n x (λ z. z) (omega arith), skip_from false n y (λ z. z) (omega arith))

skip_after : (b : Bool) (n m : ℕ) (g : ℕ → ℕ) → ((d : ℕ) → g (m + d) ≡ n + d) → (d : ℕ) → skipping b n (g (one_more_if b m + d)) ≡ suc n + d
skip_after true n m g h d = let e : suc m + d ≡ m + suc d = omega arith in ap g e ∙ omega (arith, h (suc d))
skip_after false n m g h d = omega (arith, h d, skip_from false n (g (m + d)) (λ z. z) (omega (arith, h d)))

module _ (k : ℕ → Bool) where
  pub old_rises : (n i j : ℕ) → i < j → old_number k n i < old_number k n j
  old_rises zero i j l = l
  old_rises (suc n) i j l = skip_rises (k n) n (old_number k n i) (old_number k n j) (old_rises n i j l)

  old_after : (n d : ℕ) → old_number k n (new_number k n + d) ≡ n + d
  old_after zero d = refl
  old_after (suc n) d = skip_after (k n) n (new_number k n) (old_number k n) (old_after n) d

  -- where the cut ends, the table ends
  pub old_end : (n : ℕ) → old_number k n (new_number k n) ≡ n
  old_end n =
      let e : new_number k n ≡ new_number k n + 0 = omega arith in
      ap (old_number k n) e ∙ omega (arith, old_after n 0)

  -- the old numbers are those of kept records
  skip_to_kept : (n x : ℕ) → (x < n → T (k x)) → skipping (k n) n x < suc n → T (k (skipping (k n) n x))
  skip_to_kept n x ih l = go (dec_lt x n) (says_dec (says_T (k n)))
    where
      go : Dec (x < n) → Dec (T (k n)) → T (k (skipping (k n) n x))
      go (yes b) d = subst (λ (y : ℕ). T (k y)) (sym (skip_before (k n) n x b)) (ih b)
      go (no b) (yes h) =
          let e : n ≡ skipping (k n) n x = omega (arith, skip_kept (k n) n x h) in
          subst (λ (y : ℕ). T (k y)) e h
      go (no b) (no h) = absurd (omega (arith, skip_from (k n) n x h (omega arith)))

  pub old_kept : (n i : ℕ) → old_number k n i < n → T (k (old_number k n i))
  old_kept zero i l = absurd (not-suc-le-zero l)
  old_kept (suc n) i l = skip_to_kept n (old_number k n i) (old_kept n i) l

  -- the record of a kept record's new number is that record
  pub old_new : (n j : ℕ) → j < n → T (k j) → old_number k n (new_number k j) ≡ j
  old_new zero j l h = absurd (not-suc-le-zero l)
  old_new (suc n) j l h = go (dec_lt j n) (old_new n j)
    where
      go : Dec (j < n) → (j < n → T (k j) → old_number k n (new_number k j) ≡ j) → old_number k (suc n) (new_number k j) ≡ j
      go (yes b) ih = ap (skipping (k n) n) (ih b h) ∙ skip_before (k n) n j b
      go (no b) ih =
          let e : j ≡ n = omega arith in
          skip_kept (k n) n (old_number k n (new_number k j)) (subst (λ (x : ℕ). T (k x)) e h)
          ∙ ap (λ (x : ℕ). old_number k n (new_number k x)) e ∙ old_end n ∙ sym e

  pub old_injective : (n i j : ℕ) → old_number k n i ≡ old_number k n j → i ≡ j
  old_injective n i j e =
      tri i j (λ l. absurd (omega (arith, old_rises n i j l))) (λ q. q) (λ l. absurd (omega (arith, old_rises n j i l)))

  pub old_rises_back : (n i j : ℕ) → old_number k n i < old_number k n j → i < j
  old_rises_back n i j l =
      tri i j (λ q. q) (λ q. absurd (omega (arith, ap (old_number k n) q))) (λ q. absurd (omega (arith, old_rises n j i q)))

  pub old_inside : (n i : ℕ) → (i < new_number k n) ↔ (old_number k n i < n)
  old_inside n i = (
    λ l. omega (arith, old_end n, old_rises n i (new_number k n) l),
    λ l. old_rises_back n i (new_number k n) (omega (arith, old_end n)),
  )

  -- the new number of the record of a new number is that number
  pub new_old : (n i : ℕ) → i < new_number k n → new_number k (old_number k n i) ≡ i
  new_old n i l =
      let h = (old_inside n i).0 l in
      old_injective n (new_number k (old_number k n i)) i (old_new n (old_number k n i) h (old_kept n i h))

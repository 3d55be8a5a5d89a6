-- Sets that are put together, and what they have.
use mathlib.Core.Path.{◌≡◌, refl, sym, ap, ap₂, ◌∙◌}
use mathlib.Core.Bool.{Bool, true, false}
use mathlib.Core.List.{List}
use mathlib.Core.Logic.{◌⊎◌, inl, inr, ⊎_map, ⊎_elim}
use Prim.Native.Nat.{ℕ, ◌+◌, ◌-◌, ◌*◌, ◌/◌, ◌%◌, ◌^◌, ◌≤◌, ◌<◌}
use native.Mathlib.Nat.{eq-zero-or-pos, mod-lt}
use native.Mathlib.Omega.{arith}
use native.Mathlib.Decide.{ℕ_discrete, dec_lt}
use lib.Count.{count_trailing_zeros}
use lib.Dec.{eqb}
use lib.Bits.{bit_and, bit_or}
use lib.Pow.{pow_pos}
use lib.ListN.{get_or, set, length, length-set}
use lib.Seq.{get_or-set_same, get_or-set_other}
use borrow.Author.Count.{below_more}
use mir.Syntax.{w64}
use Rattle.std.specs.Prelude.{IsTrue, ◌↔◌}
use Rattle.std.proofs.lemmas.Nat.Bits.{bit_at-trailing_zeros}
use Rattle.laws.specs.Says.{Says}
use Rattle.laws.proofs.Says.{says_iff, says_eq, says_dec, says_any, says_yes, says_no, by_dec}
use Rattle.rows.specs.declared.set.Set.{Set}
use Rattle.rows.specs.Sets.{digit, bit_of, with_bit, without_bit, In, Is}
use Rattle.rows.proofs.Digits.{Bit, bit_at, bit_is, bit_yes, bit_iff, digit_is, digit_dec, digit_or, digit_and, digit_less, digit_one, never_in_zero}

-- the bit of a in the words of a set
abbrev pub bit_in_set : {W : ℕ} → Set W → ℕ → ℕ
bit_in_set s a = digit (get_or s.words (a / 64) 0) (a % 64)

pub is_iff : {W : ℕ} {s : Set W} {P Q : ℕ → Type 0} → ((a : ℕ) → P a → Q a) → ((a : ℕ) → Q a → P a) → Is s P → Is s Q
is_iff f g i = record { all = λ a q. i.all a (g a q); only = λ a x. f a (i.only a x) }

module _ {W : ℕ} (s : Set W) where
  pub in_dec : (a : ℕ) → Dec (In s a)
  in_dec a = by (dec_lt a (64 * W)) (digit_dec (get_or s.words (a / 64) 0) (a % 64))
    where
      by : Dec (a < 64 * W) → Dec (bit_in_set s a ≡ 1) → Dec (In s a)
      by (yes l) (yes e) = yes (record { col = l; is1 = e })
      by (yes l) (no n) = no (λ i. n i.is1)
      by (no n) d = no (λ i. n i.col)

  -- a set whose every bit says P
  pub is_bits : {P : ℕ → Type 0} → ((a : ℕ) → P a → a < 64 * W) → ((a : ℕ) → a < 64 * W → Bit (P a) (bit_in_set s a)) → Is s P
  is_bits low bits = record {
    all = λ a p. record { col = low a p; is1 = bit_is (bits a (low a p)) p };
    only = λ a i. bit_yes (bits a i.col) i.is1;
  }

  -- each of its bits says whether the number is in it
  pub bit_in : (a : ℕ) → a < 64 * W → Bit (In s a) (bit_in_set s a)
  bit_in a l = bit_iff (λ e. record { col = l; is1 = e }) (λ i. i.is1) (digit_is (get_or s.words (a / 64) 0) (a % 64))

  -- a set that is not empty has a number
  pub some_in : ¬ ((a : ℕ) → ¬ In s a) → (a : ℕ) × In s a
  some_in h = by_dec (says_dec (says_any (λ a i. i.col) each)) (λ n. h (λ a i. n (a, i)))
    where
      each : (a : ℕ) → a < 64 * W → Says (eqb (bit_in_set s a) 1) (In s a)
      each a l = says_iff (λ e. record { col = l; is1 = e }) (λ i. i.is1) (says_eq (bit_in_set s a) 1)

-- the first k words of r are made of those of x and y by f, and the others are those of x
pub record Merged {W : ℕ} (f : ℕ → ℕ → ℕ) (x y : Set W) (k : ℕ) (r : Set W) : Type 0 where
  pub long : length r.words ≡ W
  pub done : (i : ℕ) → i < k → get_or r.words i 0 ≡ f (get_or x.words i 0) (get_or y.words i 0)
  pub rest : (i : ℕ) → k ≤ i → get_or r.words i 0 ≡ get_or x.words i 0

module _ {W : ℕ} {f : ℕ → ℕ → ℕ} {x y : Set W} where
  pub merged_none : length x.words ≡ W → Merged f x y 0 x
  merged_none long = record { long = long; done = λ i l. absurd (omega arith); rest = λ i l. refl }

  pub merged_more : {k : ℕ} {r : Set W} → k < W → Merged f x y k r
      → Merged f x y (k + 1) (record { words = set r.words k (f (get_or r.words k 0) (get_or y.words k 0)) })
  merged_more {k} {r} low h = record {
    long = length-set r.words k v ∙ h.long;
    done =
        below_more (λ i. get_or (set r.words k v) i 0 ≡ f (get_or x.words i 0) (get_or y.words i 0)) k
        (λ i l. get_or-set_other r.words k i v 0 (λ e. omega (arith, e, l)) ∙ h.done i l)
        (get_or-set_same r.words k v 0 (omega (arith, h.long)) ∙ ap (λ (z : ℕ). f z (get_or y.words k 0)) (h.rest k (omega arith)));
    rest = λ i l. get_or-set_other r.words k i v 0 (λ e. omega (arith, e, l)) ∙ h.rest i (omega arith);
  }
    where
      v : ℕ
      v = f (get_or r.words k 0) (get_or y.words k 0)

module _ {W : ℕ} {x y r : Set W} where
  merged : {P : ℕ → Type 0} {k : ℕ} (f : ℕ → ℕ → ℕ) → W ≤ k → Merged f x y k r → ((a : ℕ) → P a → a < 64 * W)
      → ((a : ℕ) → a < 64 * W → Bit (P a) (digit (f (get_or x.words (a / 64) 0) (get_or y.words (a / 64) 0)) (a % 64))) → Is r P
  merged f e h low bits = is_bits r low (λ a l. bit_at (ap (λ (z : ℕ). digit z (a % 64)) (h.done (a / 64) (omega arith))) (bits a l))

  pub is_or : {k : ℕ} → W ≤ k → Merged bit_or x y k r → Is r (λ a. In x a ⊎ In y a)
  is_or e h = merged bit_or e h (λ a. ⊎_elim (λ i. i.col) (λ i. i.col)) (λ a l. digit_or _ _ (a % 64) (bit_in x a l) (bit_in y a l))

  pub is_and : {k : ℕ} → W ≤ k → Merged bit_and x y k r → Is r (λ a. In x a × In y a)
  is_and e h = merged bit_and e h (λ a i. i.0.col) (λ a l. digit_and _ _ (a % 64) (bit_in x a l) (bit_in y a l))

  pub is_without : {k : ℕ} → W ≤ k → ((k : ℕ) → get_or y.words k 0 < 2 ^ 64) → Merged (λ u v. bit_and u (2 ^ 64 - 1 - v)) x y k r → Is r (λ a. In x a × (¬ In y a))
  is_without e fits h =
      merged (λ u v. bit_and u (2 ^ 64 - 1 - v)) e h (λ a i. i.0.col)
      (λ a l. digit_less _ _ (a % 64) (bit_in x a l) (bit_in y a l) (fits (a / 64)) (omega arith))

is_a : (a x : ℕ) → x / 64 ≡ a / 64 → Bit (x ≡ a) (digit (bit_of a) (x % 64))
is_a a x e = bit_iff (λ h. omega (arith, h, e)) (λ h. ap (λ (z : ℕ). z % 64) h) (digit_one (a % 64) (x % 64) (omega arith))

-- words of which one bit is changed
module _ {W : ℕ} {words : List ℕ} (a : ℕ) (col : a < 64 * W) (long : length words ≡ W) where
  -- the word of a becomes v, which differs at a alone
  changed :
      (v : ℕ) {P : ℕ → Type 0} → ((x : ℕ) → P x → x < 64 * W)
      → ((x : ℕ) → x / 64 ≡ a / 64 → x < 64 * W → Bit (P x) (digit v (x % 64)))
      → ((x : ℕ) → ¬ (x ≡ a) → (In {W = W} (record { words = words }) x → P x) × (P x → In {W = W} (record { words = words }) x))
      → Is {W = W} (record { words = set words (a / 64) v }) P
  changed v {P} low here there = is_bits (record { words = set words (a / 64) v }) low (λ x l. by x l (ℕ_discrete (x / 64) (a / 64)))
    where
      by : (x : ℕ) → x < 64 * W → Dec (x / 64 ≡ a / 64) → Bit (P x) (digit (get_or (set words (a / 64) v) (x / 64) 0) (x % 64))
      by x l (yes e) =
          bit_at
          (ap (λ (z : ℕ). digit (get_or (set words (a / 64) v) z 0) (x % 64)) e
          ∙ ap (λ (z : ℕ). digit z (x % 64)) (get_or-set_same words (a / 64) v 0 (omega (arith, long, col))))
          (here x e l)
      by x l (no n) =
          let other = there x (λ e. n (ap (λ (z : ℕ). z / 64) e)) in
          bit_at (ap (λ (z : ℕ). digit z (x % 64)) (get_or-set_other words (a / 64) (x / 64) v 0 n))
          (bit_iff other.0 other.1 (bit_in (record { words = words }) x l))

  -- the bits of the word that has a
  old : (x : ℕ) → x / 64 ≡ a / 64 → x < 64 * W → Bit (In {W = W} (record { words = words }) x) (digit (get_or words (a / 64) 0) (x % 64))
  old x e l = bit_at (ap (λ (z : ℕ). digit (get_or words z 0) (x % 64)) (sym e)) (bit_in (record { words = words }) x l)

  pub set_add : Is {W = W} (record { words = with_bit words a }) (λ x. In {W = W} (record { words = words }) x ⊎ (x ≡ a))
  set_add =
      changed _ (λ x. ⊎_elim (λ i. i.col) (λ e. omega (arith, e, col))) (λ x e l. digit_or _ _ (x % 64) (old x e l) (is_a a x e))
      (λ x n. (inl, ⊎_elim (λ i. i) (λ e. absurd (n e))))

  pub set_drop : Is {W = W} (record { words = without_bit words a }) (λ x. In {W = W} (record { words = words }) x × (¬ (x ≡ a)))
  set_drop =
      changed _ (λ x z. z.0.col)
      (λ x e l. digit_less _ _ (x % 64) (old x e l) (is_a a x e) (mod-lt (1 * 2 ^ (a % 64)) (pow_pos 64)) (omega arith))
      (λ x n. (λ i. (i, n), λ z. z.0))

-- sets that are known, put together
module _ {W : ℕ} {x y r : Set W} {P Q : ℕ → Type 0} (p : Is x P) (q : Is y Q) where
  pub either_of : Is r (λ a. In x a ⊎ In y a) → Is r (λ a. P a ⊎ Q a)
  either_of = is_iff (λ a. ⊎_map (p.only a) (q.only a)) (λ a. ⊎_map (p.all a) (q.all a))

  pub both_of : Is r (λ a. In x a × In y a) → Is r (λ a. P a × Q a)
  both_of = is_iff (λ a z. (p.only a z.0, q.only a z.1)) (λ a z. (p.all a z.0, q.all a z.1))

  pub without_of : Is r (λ a. In x a × (¬ In y a)) → Is r (λ a. P a × (¬ Q a))
  without_of = is_iff (λ a z. (p.only a z.0, λ h. z.1 (q.all a h))) (λ a z. (p.all a z.0, λ h. z.1 (q.only a h)))

-- a word that is not 0 has a bit
word_has : (x : ℕ) → x < 2 ^ 64 → ((i : ℕ) → i < 64 → ¬ (digit x i ≡ 1)) → x ≡ 0
word_has x fits none = by (eq-zero-or-pos x)
  where
    by : (x ≡ 0) ⊎ (0 < x) → x ≡ 0
    by (inl e) = e
    by (inr p) = let lowest = bit_at-trailing_zeros w64 x p fits in absurd (none (count_trailing_zeros 64 x) lowest.0 lowest.1)

-- a test that is `true` exactly if P holds
says_true : {P : Type 0} (b : Bool) → (IsTrue b ↔ P) → Says b P
says_true true h = says_yes (h.0 refl)
says_true false h = says_no (λ p. let e : false ≡ true = h.1 p in cc)

-- a set is empty exactly if its words are 0
module _ {W : ℕ} (s : Set W) where
  zero_words : ((k : ℕ) → k < W → get_or s.words k 0 ≡ 0) → (a : ℕ) → ¬ In s a
  zero_words zero a i =
      let e = ap (λ (z : ℕ). digit z (a % 64)) (zero (a / 64) (omega (arith, i.col))) in
      never_in_zero (a % 64) (sym e ∙ i.is1)

  words_zero : ((k : ℕ) → get_or s.words k 0 < 2 ^ 64) → ((a : ℕ) → ¬ In s a) → (k : ℕ) → k < W → get_or s.words k 0 ≡ 0
  words_zero fits none k l =
      word_has (get_or s.words k 0) (fits k)
      (λ i h e. none (64 * k + i) (record { col = omega arith; is1 = ap₂ (λ (u v : ℕ). digit (get_or s.words u 0) v) (word i h) (place i h) ∙ e }))
    where
      word : (i : ℕ) → i < 64 → (64 * k + i) / 64 ≡ k
      word i h = omega arith

      place : (i : ℕ) → i < 64 → (64 * k + i) % 64 ≡ i
      place i h = omega arith

  pub says_empty :
      (b : Bool) → ((k : ℕ) → get_or s.words k 0 < 2 ^ 64) → length s.words ≡ W
      → (IsTrue b ↔ ((k : ℕ) → k < length s.words → get_or s.words k 0 ≡ 0)) → Says b ((a : ℕ) → ¬ In s a)
  says_empty b fits long zero =
      says_iff (λ z. zero_words (λ k l. z k (omega (arith, long)))) (λ none k l. words_zero fits none k (omega (arith, long))) (says_true b zero)

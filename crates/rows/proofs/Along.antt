-- A row's numbers, upward and downward: a word that is shifted to a place tells what stands from there on, and its highest bit what is the last.
use mathlib.Core.Path.{◌≡◌, sym, ap, subst, ◌∙◌}
use mathlib.Core.List.{List, []}
use Prim.Native.Nat.{ℕ, ◌+◌, ◌-◌, ◌*◌, ◌/◌, ◌%◌, ◌^◌, ◌≤◌, ◌<◌}
use native.Mathlib.Nat.{div-eq_of_lt, lt_of_lt_of_le, lt_of_le_of_lt}
use native.Mathlib.Decide.{ℕ_discrete, dec_lt}
use native.Mathlib.Omega.{arith}
use lib.Count.{count_leading_zeros, count_trailing_zeros}
use lib.ListN.{get_or}
use mir.Syntax.{w64}
use Rattle.std.proofs.lemmas.Nat.Bits.{bit_at-zero, bit_at-trailing_zeros}
use lib.Pow.{pow_mono, shr_le}
use Rattle.laws.proofs.Closure.{tri}
use Rattle.rows.specs.Sets.{digit}
use Rattle.rows.specs.Rows.{On}
use Rattle.rows.specs.Found.{NextOf, LastOf}
use Rattle.rows.proofs.Digits.{digit_shr}
use Rattle.rows.proofs.Leading.{leading_at, leading_past}

-- a bit that is 1 is one of the word's
digit_below : (k x i : ℕ) → x < 2 ^ k → digit x i ≡ 1 → i < k
digit_below k x i h e = by (dec_lt i k)
  where
    by : Dec (i < k) → i < k
    by (yes l) = l
    by (no l) =
        let z : digit x i ≡ 0 = ap (λ (z : ℕ). z % 2) (div-eq_of_lt (lt_of_lt_of_le h (pow_mono (omega arith)))) in
        absurd (omega arith)

-- the word with number at in it, shifted to at
abbrev pub rest_at : List (List ℕ) → ℕ → ℕ → ℕ
rest_at m b at = get_or (get_or m b []) (at / 64) 0 / 2 ^ (at % 64)

module _ (w : ℕ) (m : List (List ℕ)) (b at : ℕ) where
  -- it says what stands from at on, to the end of the word
  shifted : (j : ℕ) → at % 64 + j < 64 → digit (rest_at m b at) j ≡ digit (get_or (get_or m b []) ((at + j) / 64) 0) ((at + j) % 64)
  shifted j l =
      digit_shr (get_or (get_or m b []) (at / 64) 0) (at % 64) j
      ∙ ap (λ (z : ℕ). digit (get_or (get_or m b []) z 0) (at % 64 + j)) word
      ∙ ap (digit (get_or (get_or m b []) ((at + j) / 64) 0)) place
    where
      word : at / 64 ≡ (at + j) / 64
      word = omega arith

      place : at % 64 + j ≡ (at + j) % 64
      place = omega arith

  clear_at : (a : ℕ) → at ≤ a → at % 64 + (a - at) < 64 → digit (rest_at m b at) (a - at) ≡ 0 → ¬ On w m a b
  clear_at a h l z o =
      let k : at + (a - at) ≡ a = omega arith in
      let r : digit (get_or (get_or m b []) (a / 64) 0) (a % 64) ≡ 0 = subst (λ (y : ℕ). digit (get_or (get_or m b []) (y / 64) 0) (y % 64) ≡ 0) k (sym (shifted (a - at) l) ∙ z) in
      omega (arith, o.is1)

  -- it is 0: nothing up to the end of the word
  pub word_passed : rest_at m b at ≡ 0 → (a : ℕ) → at ≤ a → a < 64 * (at / 64 + 1) → ¬ On w m a b
  word_passed z a h l = clear_at a h (omega arith) (ap (λ (y : ℕ). digit y (a - at)) z ∙ bit_at-zero (a - at))

  -- it is not: its lowest bit is the next number
  module _ (fits : get_or (get_or m b []) (at / 64) 0 < 2 ^ 64) (low : at / 64 < w) (other : 0 < rest_at m b at) where
    lowest :
        (count_trailing_zeros 64 (rest_at m b at) < 64) × (digit (rest_at m b at) (count_trailing_zeros 64 (rest_at m b at)) ≡ 1)
        × ((i : ℕ) → i < count_trailing_zeros 64 (rest_at m b at) → digit (rest_at m b at) i ≡ 0)
    lowest = bit_at-trailing_zeros w64 (rest_at m b at) other (lt_of_le_of_lt (shr_le (get_or (get_or m b []) (at / 64) 0) (at % 64)) fits)

    pub inside : at % 64 + count_trailing_zeros 64 (rest_at m b at) < 64
    inside =
        digit_below 64 (get_or (get_or m b []) (at / 64) 0) (at % 64 + count_trailing_zeros 64 (rest_at m b at)) fits
        (sym (digit_shr (get_or (get_or m b []) (at / 64) 0) (at % 64) (count_trailing_zeros 64 (rest_at m b at))) ∙ lowest.1)

    pub word_found : On w m (at + count_trailing_zeros 64 (rest_at m b at)) b
    word_found = record { col = omega (arith, inside, low); is1 = sym (shifted (count_trailing_zeros 64 (rest_at m b at)) inside) ∙ lowest.1 }

    pub word_before : (a : ℕ) → at ≤ a → a < at + count_trailing_zeros 64 (rest_at m b at) → ¬ On w m a b
    word_before a h l = clear_at a h (omega (arith, inside)) (lowest.2 (a - at) (omega arith))

-- row b has no number from lo on that is below at
pub record Gap (w : ℕ) (m : List (List ℕ)) (b lo at : ℕ) : Type 0 where
  pub from : lo ≤ at
  pub empty : (a : ℕ) → lo ≤ a → a < at → ¬ On w m a b

module _ {w b lo : ℕ} {m : List (List ℕ)} where
  pub gap_none : Gap w m b lo lo
  gap_none = record { from = omega arith; empty = λ a h l. absurd (omega arith) }

  pub gap_more : {at hi : ℕ} → at ≤ hi → ((a : ℕ) → at ≤ a → a < hi → ¬ On w m a b) → Gap w m b lo at → Gap w m b lo hi
  gap_more {at} {hi} le f g = record { from = omega (arith, g.from); empty = λ a h l. by a h l (dec_lt a at) }
    where
      by : (a : ℕ) → lo ≤ a → a < hi → Dec (a < at) → ¬ On w m a b
      by a h l (yes k) = g.empty a h k
      by a h l (no k) = f a (omega arith) l

  -- what the row has before at is before lo
  pub gap_low : {at : ℕ} → Gap w m b lo at → (a : ℕ) → a < at → On w m a b → a < lo
  gap_low {at} g a l o = by (dec_lt a lo)
    where
      by : Dec (a < lo) → a < lo
      by (yes h) = h
      by (no h) = absurd (g.empty a (omega arith) l o)

  pub gap_found : {at : ℕ} → Gap w m b lo at → On w m at b → NextOf w m b lo at
  gap_found g o = record { low = g.from; high = omega (arith, o.col); before = g.empty; on = λ _. o }

  pub gap_all : {at : ℕ} → lo ≤ 64 * w → w ≤ at / 64 → Gap w m b lo at → NextOf w m b lo (64 * w)
  gap_all {at} l h g = record { low = l; high = omega arith; before = λ a k j. g.empty a k (omega arith); on = λ k. absurd (omega arith) }

-- row b has no number from word k on
pub record Clear (w : ℕ) (m : List (List ℕ)) (b k : ℕ) : Type 0 where
  pub from : (a : ℕ) → k ≤ a / 64 → ¬ On w m a b

module _ {w b : ℕ} {m : List (List ℕ)} where
  pub clear_all : Clear w m b w
  clear_all = record { from = λ a h o. omega (arith, h, o.col) }

  -- nor in the word before
  pub clear_more : {k : ℕ} → get_or (get_or m b []) k 0 ≡ 0 → Clear w m b (k + 1) → Clear w m b k
  clear_more {k} z c = record { from = λ a h o. by a o (ℕ_discrete (a / 64) k) h }
    where
      by : (a : ℕ) → On w m a b → Dec (a / 64 ≡ k) → k ≤ a / 64 → ⊥
      by a o (yes e) h =
          let q : digit (get_or (get_or m b []) (a / 64) 0) (a % 64) ≡ 0 =
          ap (λ (y : ℕ). digit (get_or (get_or m b []) y 0) (a % 64)) e ∙ ap (λ (y : ℕ). digit y (a % 64)) z ∙ bit_at-zero (a % 64) in
          omega (arith, q, o.is1)
      by a o (no n) h = c.from a (omega arith) o

  pub clear_none : Clear w m b 0 → LastOf w m b (64 * w)
  clear_none c = record {
    high = omega arith;
    past = λ a o. absurd (c.from a (omega arith) o);
    on = λ l. absurd (omega arith);
    none = λ _ a o. c.from a (omega arith) o;
  }

  -- the highest bit of the last word that is not 0
  pub last_found : {k : ℕ} → k < w → get_or (get_or m b []) k 0 < 2 ^ 64 → 0 < get_or (get_or m b []) k 0 → Clear w m b (k + 1) → LastOf w m b (64 * k + (63 - count_leading_zeros 64 (get_or (get_or m b []) k 0)))
  last_found {k} l fits other c = record {
    high = omega arith;
    past = λ a o. by a o (ℕ_discrete (a / 64) k);
    on = λ _. here;
    none = λ e a o. omega (arith, e);
  }
    where
      top : ℕ
      top = 63 - count_leading_zeros 64 (get_or (get_or m b []) k 0)

      top_low : top < 64
      top_low = omega arith

      word : (64 * k + top) / 64 ≡ k
      word = omega (arith, top_low)

      place : (64 * k + top) % 64 ≡ top
      place = omega (arith, top_low)

      here : On w m (64 * k + top) b
      here = record {
        col = omega (arith, top_low);
        is1 =
            ap (λ (y : ℕ). digit (get_or (get_or m b []) y 0) ((64 * k + top) % 64)) word
            ∙ ap (digit (get_or (get_or m b []) k 0)) place ∙ leading_at (get_or (get_or m b []) k 0) fits other;
      }

      by : (a : ℕ) → On w m a b → Dec (a / 64 ≡ k) → a ≤ 64 * k + top
      by a o (yes e) =
          let q = leading_past (get_or (get_or m b []) k 0) fits other (a % 64) (sym (ap (λ (y : ℕ). digit (get_or (get_or m b []) y 0) (a % 64)) e) ∙ o.is1) in
          omega (arith, q, e)
      by a o (no n) = by_word a o n (dec_lt k (a / 64))
        where
          by_word : (a : ℕ) → On w m a b → ¬ (a / 64 ≡ k) → Dec (k < a / 64) → a ≤ 64 * k + top
          by_word a o n (yes h) = absurd (c.from a (omega arith) o)
          by_word a o n (no h) = omega arith

-- the numbers of a row, one after another: what holds of those before at, and of the next, holds of those up to it
module _ {w b : ℕ} {m : List (List ℕ)} (P : ℕ → Type 0) where
  pub along_next : {at v : ℕ} → Gap w m b at v → ((a : ℕ) → a < at → On w m a b → P a) → (a : ℕ) → a < v → On w m a b → P a
  along_next gap old a l o = old a (gap_low gap a l o) o

  pub along_more : {v : ℕ} → ((a : ℕ) → a < v → On w m a b → P a) → (On w m v b → P v) → (a : ℕ) → a < v + 1 → On w m a b → P a
  along_more {v} old new a l o = tri a v (λ h. old a h o) (λ e. subst P (sym e) (new (subst (λ (z : ℕ). On w m z b) e o))) (λ h. absurd (omega arith))

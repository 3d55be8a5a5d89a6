-- Laws of written text, of decimal numbers, and of a piece for each of a list.
use mathlib.Core.Path.{◌≡◌, refl, sym, ap, ap₂, subst, ◌∙◌}
use mathlib.Core.Bool.{Bool}
use mathlib.Core.List.{List, [], ◌∷◌, ◌++◌, append_assoc, append-nil}
use Prim.Native.Nat.{ℕ, zero, suc, ◌+◌, ◌-◌, ◌/◌, ◌%◌, ◌<◌, ◌≤◌}
use native.Mathlib.Nat.{div-lt_self, add-zero}
use native.Mathlib.Omega.{arith}
use native.Mathlib.Numerals.{add-one}
use native.Mathlib.Decide.{dec_lt}
use lib.Dec.{ltb}
use lib.ListN.{length, take, drop, get_or, length-append, length-drop, take-append-drop}
use lib.Seq.{take-suc, take-length, take_at, drop-append-add, drop-drop, length-take-le}
use borrow.Author.Tests.{lt-ltb, le-ltb}
use Rattle.text.specs.Text.{digits, decimal, none_if, each, Written}

pub written_length : {before : List ℕ} {at : ℕ} {text after : List ℕ} {r : ℕ} → at + length text ≤ length before → Written before at text after r → length after ≡ length before
written_length {before} {at} {text} h w =
    ap length w.holds
    ∙ length-append (take at before) (text ++ drop (at + length text) before)
    ∙ ap₂ ◌+◌ (length-take-le at before (omega arith)) (length-append text (drop (at + length text) before) ∙ ap (λ (n : ℕ). length text + n) (length-drop (at + length text) before))
    ∙ omega arith

-- the same under another name of the text
pub written_text : {before : List ℕ} {at : ℕ} {s u after : List ℕ} {r : ℕ} → s ≡ u → Written before at s after r → Written before at u after r
written_text {before} {at} {after = after} {r = r} e w = subst (λ (x : List ℕ). Written before at x after r) e w

-- a piece that was copied into the part from `at` on
pub written_part :
    (before piece part : List ℕ) (at : ℕ) → at + length piece ≤ length before
    → part ≡ piece → Written before at piece (take at before ++ (part ++ drop (at + length piece - at) (drop at before))) (at + length piece)
written_part before piece part at h e =
    let size : at + length piece - at ≡ length piece = omega arith in
    record { holds = ap₂ (λ (x : List ℕ) (k : ℕ). take at before ++ (x ++ drop k (drop at before))) e size ∙ rw drop-drop; next = refl }

pub written_nothing : (before : List ℕ) (at : ℕ) → Written before at [] before at
written_nothing before at = record { holds = sym (take-append-drop at before) ∙ rw add-zero; next = rw add-zero }

-- a piece, and then another from where it ended
pub written_then :
    {before : List ℕ} {at : ℕ} {s mid : List ℕ} {m : ℕ} {u after : List ℕ} {r : ℕ} → at + length (s ++ u) ≤ length before → Written before at s mid m → Written mid m u after r → Written before at (s ++ u) after r
written_then {before} {at} {s} {mid} {m} {u} {after} {r} h v w = record {
  holds = w.holds ∙ ap₂ (λ (x y : List ℕ). x ++ (u ++ y)) front back ∙ simp append_assoc;
  next = w.next ∙ omega (arith, v.next, length-append s u);
}
  where
    long : length (take at before ++ s) ≡ m
    long = length-append (take at before) s ∙ ap (λ (n : ℕ). n + length s) (length-take-le at before (omega arith)) ∙ sym v.next

    whole : mid ≡ (take at before ++ s) ++ drop (at + length s) before
    whole = v.holds ∙ sym (append_assoc (take at before) s (drop (at + length s) before))

    front : take m mid ≡ take at before ++ s
    front = ap (take m) whole ∙ take_at (take at before ++ s) (drop (at + length s) before) m long

    same : at + length s + length u ≡ at + length (s ++ u)
    same = omega (arith, length-append s u)

    back : drop (m + length u) mid ≡ drop (at + length (s ++ u)) before
    back =
        ap₂ (λ (n : ℕ) (l : List ℕ). drop (n + length u) l) (sym long) whole
        ∙ drop-append-add (take at before ++ s) (drop (at + length s) before) (length u)
        ∙ drop-drop (length u) (at + length s) before
        ∙ ap (λ (n : ℕ). drop n before) same

-- ---- decimal numbers

digits_bound : (j k n : ℕ) → n < j → n < k → digits j n ≡ digits k n
unfolding digits
digits_bound zero k n h g = absurd (omega arith)
digits_bound (suc j) zero n h g = absurd (omega arith)
digits_bound (suc j) (suc k) n h g = ap (λ (l : List ℕ). l ++ ((48 + n % 10) ∷ [])) (by (dec_lt n 10) (digits_bound j k (n / 10)))
  where
    by : Dec (n < 10) → (n / 10 < j → n / 10 < k → digits j (n / 10) ≡ digits k (n / 10)) → none_if (ltb n 10) (digits j (n / 10)) ≡ none_if (ltb n 10) (digits k (n / 10))
    by (yes l) shorter = rw (lt-ltb n 10 l)
    by (no l) shorter =
        let d : n / 10 < n = div-lt_self (omega arith) (omega arith) in
        ap (none_if (ltb n 10)) (shorter (omega arith) (omega arith))

pub decimal_one : (n : ℕ) → n < 10 → decimal n ≡ (48 + n % 10) ∷ []
unfolding digits decimal
decimal_one n h = rw (lt-ltb n 10 h)

pub decimal_more : (n : ℕ) → 10 ≤ n → decimal n ≡ decimal (n / 10) ++ ((48 + n % 10) ∷ [])
unfolding digits decimal
decimal_more n h =
    let d : n / 10 < n = div-lt_self (omega arith) (omega arith) in
    ap (λ (b : Bool). none_if b (digits n (n / 10)) ++ ((48 + n % 10) ∷ [])) (le-ltb n 10 h)
    ∙ ap (λ (l : List ℕ). l ++ ((48 + n % 10) ∷ [])) (digits_bound n (suc (n / 10)) (n / 10) (omega arith) (omega arith))

pub decimal_longer : (n : ℕ) → 10 ≤ n → length (decimal n) ≡ length (decimal (n / 10)) + 1
decimal_longer n h = ap length (decimal_more n h) ∙ length-append (decimal (n / 10)) ((48 + n % 10) ∷ [])

-- a number in decimal where it has room: one digit, or the digits of n / 10 and then the last
module _ (before : List ℕ) (at n : ℕ) (room : at + length (decimal n) ≤ length before) where
  module _ (small : n < 10) where
    pub one_room : at + 1 ≤ length before
    one_room = omega (arith, ap length (decimal_one n small))

    pub one_digit : {d : ℕ} {after : List ℕ} {r : ℕ} → d ≡ 48 + n % 10 → Written before at (d ∷ []) after r → Written before at (decimal n) after r
    one_digit is w = written_text (ap (λ (d : ℕ). d ∷ []) is ∙ sym (decimal_one n small)) w

  module _ (large : 10 ≤ n) where
    pub tens_room : at + length (decimal (n / 10)) ≤ length before
    tens_room = omega (arith, decimal_longer n large)

    module _ {mid : List ℕ} {next : ℕ} (tens : Written before at (decimal (n / 10)) mid next) where
      pub last_room : next + 1 ≤ length mid
      last_room = omega (arith, decimal_longer n large, tens.next, written_length tens_room tens)

      pub last_digit : {d : ℕ} {after : List ℕ} {r : ℕ} → d ≡ 48 + n % 10 → Written mid next (d ∷ []) after r → Written before at (decimal n) after r
      last_digit {d} is w = written_text text (written_then (omega (arith, ap length text)) tens w)
        where
          text : decimal (n / 10) ++ (d ∷ []) ≡ decimal n
          text = ap (λ (x : ℕ). decimal (n / 10) ++ (x ∷ [])) is ∙ sym (decimal_more n large)

-- ---- a piece for each of a list

module _ {A : Type 0} (piece : A → List ℕ) where
  pub each_last : (l : List A) (a : A) → each piece (l ++ (a ∷ [])) ≡ each piece l ++ piece a
  each_last [] a = append-nil (piece a)
  each_last (b ∷ l) a =
      ap (λ (x : List ℕ). piece b ++ x) (each_last l a) ∙ sym (append_assoc (piece b) (each piece l) (piece a))

  each_within : (l : List A) (i k : ℕ) → i ≤ k → length (each piece (take i l)) ≤ length (each piece (take k l))
  each_within l zero k h = omega arith
  each_within l (suc i) zero h = absurd (omega arith)
  each_within [] (suc i) (suc k) h = omega arith
  each_within (a ∷ l) (suc i) (suc k) h =
      omega (
        arith,
        length-append (piece a) (each piece (take i l)),
        length-append (piece a) (each piece (take k l)),
        each_within l i k (omega arith),
      )

  -- with i of the pieces written, there is room for the next, and with it one more is written
  module _ (before : List ℕ) (l : List A) (out : List ℕ) (at i next : ℕ) (d a : A) (more : i < length l) (room : at + length (each piece l) ≤ length before)
      (w : Written before at (each piece (take i l)) out next) (is : a ≡ get_or l i d) where
    text : each piece (take (i + 1) l) ≡ each piece (take i l) ++ piece a
    text =
        rw (add-one, take-suc l i d)
        (each_last (take i l) (get_or l i d) ∙ ap (λ (x : A). each piece (take i l) ++ piece x) (sym is))

    fits : at + length (each piece (take i l) ++ piece a) ≤ length before
    fits = omega (arith, ap length text, each_within l (i + 1) (length l) (omega arith), ap (λ (k : List A). length (each piece k)) (take-length l))

    pub each_room : next + length (piece a) ≤ length out
    each_room =
        let joined = length-append (each piece (take i l)) (piece a) in
        let f = fits in
        omega (arith, w.next, written_length (omega arith) w)

    pub each_more : {after : List ℕ} {r : ℕ} → Written out next (piece a) after r → Written before at (each piece (take (i + 1) l)) after r
    each_more x = written_text (sym text) (written_then fits w x)

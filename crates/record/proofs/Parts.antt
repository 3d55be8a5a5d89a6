-- The sixteen bytes of record n in a table that was cut short or lengthened, and those that a record is written as.
use mathlib.Core.Path.{◌≡◌, refl, sym, ap, ◌∙◌}
use mathlib.Core.List.{List, [], ◌++◌}
use Prim.Native.Nat.{ℕ, suc, ◌+◌, ◌*◌, ◌<◌, ◌≤◌}
use native.Mathlib.Omega.{arith}
use native.Mathlib.Decide.{dec_lt}
use lib.ListN.{length, take, drop, length-take, length-drop, drop_of_length-le, take-append-drop, get_or-eq_default}
use lib.Seq.{length-take-le, take_all, drop_at, take-append-le, drop-append-le, take-nil, get_or-take, get_or-drop, take-add}
use Rattle.events.specs.declared.Record.{Record}
use Rattle.record.specs.Form.{byte_at, encode, part}
use Rattle.record.specs.Fits.{Bytes}

pub part_length : (t : List ℕ) (n : ℕ) → 16 * n + 16 ≤ length t → length (part t n) ≡ 16
part_length t n h = length-take-le 16 (drop (16 * n) t) (simp length-drop (omega arith))

-- a table of whole records has no bytes past them
pub part_past : (t : List ℕ) (n : ℕ) → length t ≤ 16 * n → part t n ≡ []
part_past t n h = ap (take 16) (drop_of_length-le t h) ∙ take-nil 16

-- what follows a record changes nothing in it
pub part_append : (xs ys : List ℕ) (n : ℕ) → 16 * n + 16 ≤ length xs → part (xs ++ ys) n ≡ part xs n
part_append xs ys n h =
    ap (take 16) (drop-append-le (16 * n) xs ys (omega arith))
    ∙ take-append-le 16 (drop (16 * n) xs) ys (simp length-drop (omega arith))

-- the last record, after n
pub part_last : (xs ys : List ℕ) (n : ℕ) → length xs ≡ 16 * n → length ys ≡ 16 → part (xs ++ ys) n ≡ ys
part_last xs ys n h k = ap (take 16) (drop_at xs ys (16 * n) h) ∙ take_all 16 ys (omega arith)

pub part_take : (t : List ℕ) (k n : ℕ) → 16 * n + 16 ≤ k → k ≤ length t → part (take k t) n ≡ part t n
part_take t k n h l =
    sym (part_append (take k t) (drop k t) n (omega (arith, length-take-le k t l))) ∙ ap (λ (x : List ℕ). part x n) (take-append-drop k t)

-- ---- bytes

pub bytes_take : (t : List ℕ) (k : ℕ) → Bytes t → Bytes (take k t)
bytes_take t k bytes = record { below = λ i. go i (dec_lt i k) }
  where
    go : (i : ℕ) → Dec (i < k) → byte_at (take k t) i < 256
    go i (yes h) = rw (get_or-take k t i 0 h) (bytes.below i)
    go i (no h) = rw (get_or-eq_default (take k t) 0 {n = i} (simp length-take (omega arith))) (omega arith)

pub bytes_part : (t : List ℕ) (n : ℕ) → Bytes t → Bytes (part t n)
bytes_part t n bytes =
    bytes_take (drop (16 * n) t) 16 (record { below = λ i. rw (get_or-drop (16 * n) t i 0) (bytes.below (16 * n + i)) })

-- a table's first n + 1 records are its first n and one more
pub front_more : (t : List ℕ) (n : ℕ) → take (16 * suc n) t ≡ take (16 * n) t ++ part t n
front_more t n =
    let e : 16 * suc n ≡ 16 * n + 16 = omega arith in
    ap (λ (k : ℕ). take k t) e ∙ take-add (16 * n) 16 t

-- ---- what can be written back

-- sixteen numbers; only the low ones of the two values have to be bytes
pub record Whole (p : List ℕ) : Type 0 where
  pub long : length p ≡ 16
  pub low_read : byte_at p 10 < 256
  pub low_written : byte_at p 12 < 256

pub whole_part : (t : List ℕ) (n : ℕ) → Bytes t → 16 * n + 16 ≤ length t → Whole (part t n)
whole_part t n bytes h = record {
  long = part_length t n h;
  low_read = (bytes_part t n bytes).below 10;
  low_written = (bytes_part t n bytes).below 12;
}

pub encode_length : (r : Record) → length (encode r) ≡ 16
unfolding encode
encode_length r = refl

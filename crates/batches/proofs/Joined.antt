-- Two batches joined, the first ending cleanly: the tables of the first and then of the second, and the end of the second moved on.
use mathlib.Core.Path.{◌≡◌, sym, ap, ap₂, subst, ◌∙◌}
use mathlib.Core.List.{List, ◌∷◌, ◌++◌}
use Prim.Native.Nat.{ℕ, ◌+◌, ◌-◌, ◌≤◌}
use native.Mathlib.Nat.{add-zero}
use native.Mathlib.Omega.{arith}
use lib.ListN.{length, get_or, take, drop, length-append, length-drop, get_or-append}
use lib.Seq.{take-append-le, drop-append-le, drop-append-add, get_or-append-add}
use Rattle.record.specs.Form.{word}
use Rattle.batches.specs.Batch.{most, mark_is, mark_at, length_at, End, cleanly, Standing, table, end, stands_at, part, HoldsFrom, no_more, one_more, Holds, moved_on}
use Rattle.batches.proofs.Standing.{Stands, too_long, no_byte, short_header, wrong_mark, short_table, a_table, stands_is, stands_so, inside, clean_end}

module _ (a b : List ℕ) (within : length (a ++ b) ≤ most) where
  long : length (a ++ b) ≡ length a + length b
  long = length-append a b

  -- ---- in the first

  front_mark : (place : ℕ) → place + 4 ≤ length a → mark_at (a ++ b) place ≡ mark_at a place
  front_mark place h = ap₂ mark_is (get_or-append a b 0 place (omega arith)) (get_or-append a b 0 (place + 1) (omega arith))

  front_length : (place : ℕ) → place + 4 ≤ length a → length_at (a ++ b) place ≡ length_at a place
  front_length place h = ap₂ word (get_or-append a b 0 (place + 2) (omega arith)) (get_or-append a b 0 (place + 3) (omega arith))

  front_table : (place : ℕ) {from to : ℕ} → stands_at a place ≡ table from to → stands_at (a ++ b) place ≡ table from to
  front_table place {from} {to} e =
      let i = inside place e in
      let header : place + 4 ≤ length a = omega (arith, i.stop, i.within) in
      let len = front_length place header in
      stands_is (a_table within (omega (arith, long)) (front_mark place header ∙ i.mark) (omega (arith, long, i.stop, i.within)))
      ∙ ap₂ table (sym i.start) (ap (λ (n : ℕ). place + 4 + n) len ∙ sym i.stop)

  front_part : (from to : ℕ) → from ≤ to → to ≤ length a → part (a ++ b) from to ≡ part a from to
  front_part from to h k =
      ap (take (to - from)) (drop-append-le from a b (omega arith))
      ∙ take-append-le (to - from) (drop from a) b (omega (arith, length-drop from a))

  front :
      {place : ℕ} {tables more : List (List ℕ)} {e : End} → HoldsFrom a place tables cleanly → place ≤ length a → HoldsFrom (a ++ b) (length a) more e
      → HoldsFrom (a ++ b) place (tables ++ more) e
  front {place} {more = more} {e = e} (no_more is) k rest =
      let here : length a ≡ place = omega (arith, clean_end a place is) in
      subst (λ (n : ℕ). HoldsFrom (a ++ b) n more e) here rest
  front {place} {more = more} {e = e} (one_more {from = from} {to = to} {tables = ts} is h) k rest =
      let i = inside place is in
      subst (λ (t : List ℕ). HoldsFrom (a ++ b) place (t ∷ (ts ++ more)) e)
      (front_part from to (omega (arith, i.start, i.stop)) i.within)
      (one_more (front_table place is) (front h i.within rest))

  -- ---- in the second

  moved_standing : Standing → Standing
  moved_standing (table from to) = table (length a + from) (length a + to)
  moved_standing (end e) = end (moved_on (length a) e)

  back_byte : (place k : ℕ) → get_or (a ++ b) (length a + place + k) 0 ≡ get_or b (place + k) 0
  back_byte place k = ap (λ (n : ℕ). get_or (a ++ b) n 0) same ∙ get_or-append-add a b (place + k) 0
    where
      same : length a + place + k ≡ length a + (place + k)
      same = omega arith

  back_mark : (place : ℕ) → mark_at (a ++ b) (length a + place) ≡ mark_at b place
  back_mark place = ap₂ mark_is (get_or-append-add a b place 0) (back_byte place 1)

  back_length : (place : ℕ) → length_at (a ++ b) (length a + place) ≡ length_at b place
  back_length place = ap₂ word (back_byte place 2) (back_byte place 3)

  back_stands : {place : ℕ} {s : Standing} → Stands b place s → stands_at (a ++ b) (length a + place) ≡ moved_standing s
  unfolding moved_standing
  back_stands (too_long h) = absurd (omega (arith, long))
  back_stands (no_byte w h) = stands_is (no_byte within (omega (arith, long)))
  back_stands (short_header w h k) = stands_is (short_header within (omega (arith, long)) (omega (arith, long)))
  back_stands {place} (wrong_mark w h m) = stands_is (wrong_mark within (omega (arith, long)) (back_mark place ∙ m))
  back_stands {place} (short_table w h m k) =
      stands_is (short_table within (omega (arith, long)) (back_mark place ∙ m) (omega (arith, long, back_length place)))
  back_stands {place} (a_table w h m k) =
      stands_is (a_table within (omega (arith, long)) (back_mark place ∙ m) (omega (arith, long, back_length place)))
      ∙ ap₂ table start stop
    where
      start : length a + place + 4 ≡ length a + (place + 4)
      start = omega arith

      stop : length a + place + 4 + length_at (a ++ b) (length a + place) ≡ length a + (place + 4 + length_at b place)
      stop = omega (arith, back_length place)

  back_part : (from to : ℕ) → part (a ++ b) (length a + from) (length a + to) ≡ part b from to
  back_part from to = ap₂ take same (drop-append-add a b from)
    where
      same : length a + to - (length a + from) ≡ to - from
      same = omega arith

  back : {place : ℕ} {tables : List (List ℕ)} {e : End} → HoldsFrom b place tables e → HoldsFrom (a ++ b) (length a + place) tables (moved_on (length a) e)
  unfolding moved_standing
  back (no_more {place = place} is) = no_more (back_stands (stands_so b place is))
  back (one_more {place = place} {from = from} {to = to} {tables = ts} {e = e} is rest) =
      subst (λ (t : List ℕ). HoldsFrom (a ++ b) (length a + place) (t ∷ ts) (moved_on (length a) e)) (back_part from to)
      (one_more (back_stands (stands_so b place is)) (back rest))

  pub joined : {first second : List (List ℕ)} {e : End} → Holds a first cleanly → Holds b second e → Holds (a ++ b) (first ++ second) (moved_on (length a) e)
  joined {second = second} {e = e} h k =
      let rest = subst (λ (n : ℕ). HoldsFrom (a ++ b) n second (moved_on (length a) e)) (add-zero (length a)) (back k.all) in
      record { all = front h.all (omega arith) rest }

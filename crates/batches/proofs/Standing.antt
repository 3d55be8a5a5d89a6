-- What stands at a place, by cases: which tests it met.
use Rattle.std.specs.Prelude.{None}
use mathlib.Core.Path.{◌≡◌, refl, sym, subst, ◌∙◌}
use mathlib.Core.Bool.{Bool, true, false}
use mathlib.Core.List.{List}
use Prim.Native.Nat.{ℕ, ◌+◌, ◌-◌, ◌<◌, ◌≤◌}
use native.Mathlib.Omega.{arith}
use native.Mathlib.Decide.{dec_lt, dec_le}
use lib.ListN.{length}
use borrow.Author.Tests.{le-leb, lt-leb, lt-ltb, le-ltb}
use Rattle.refusals.specs.declared.Told.{Told}
use Rattle.refusals.specs.Numbers.{at}
use Rattle.batches.specs.Batch.{most, mark_at, length_at, End, cleanly, refused, Standing, table, end, stands_at}

pub data Stands (b : List ℕ) (place : ℕ) : Standing → Type 0 where
  too_long : most < length b → Stands b place (end (refused (at 1 0)))
  no_byte : length b ≤ most → length b ≤ place → Stands b place (end cleanly)
  short_header : length b ≤ most → place < length b → length b < place + 4 → Stands b place (end (refused (at 15 place)))
  wrong_mark : length b ≤ most → place + 4 ≤ length b → mark_at b place ≡ false → Stands b place (end (refused (at 14 place)))
  short_table :
      length b ≤ most → place + 4 ≤ length b → mark_at b place ≡ true → length b < place + 4 + length_at b place
      → Stands b place (end (refused (at 15 place)))
  a_table :
      length b ≤ most → place + 4 ≤ length b → mark_at b place ≡ true → place + 4 + length_at b place ≤ length b
      → Stands b place (table (place + 4) (place + 4 + length_at b place))

module _ {b : List ℕ} {place : ℕ} where
  pub stands_is : {s : Standing} → Stands b place s → stands_at b place ≡ s
  unfolding stands_at
  stands_is (too_long h) = simp (lt-ltb _ _ h)
  stands_is (no_byte w h) = simp (le-ltb _ _ w, le-leb _ _ h)
  stands_is (short_header w h k) =
      let few : length b - place < 4 = omega arith in
      simp (le-ltb _ _ w, lt-leb _ _ h, lt-ltb _ _ few)
  stands_is (wrong_mark w h m) =
      let more : place < length b = omega arith in
      let enough : 4 ≤ length b - place = omega arith in
      simp (le-ltb _ _ w, lt-leb _ _ more, le-ltb _ _ enough, m)
  stands_is (short_table w h m k) =
      let more : place < length b = omega arith in
      let enough : 4 ≤ length b - place = omega arith in
      simp (le-ltb _ _ w, lt-leb _ _ more, le-ltb _ _ enough, m, lt-leb _ _ k)
  stands_is (a_table w h m k) =
      let more : place < length b = omega arith in
      let enough : 4 ≤ length b - place = omega arith in
      simp (le-ltb _ _ w, lt-leb _ _ more, le-ltb _ _ enough, m, le-leb _ _ k)

-- something stands there
record There (b : List ℕ) (place : ℕ) : Type 0 where
  what : Standing
  stands : Stands b place what

module _ (b : List ℕ) (place : ℕ) where
  there : There b place
  there = by (dec_lt most (length b)) (dec_le (length b) place) (dec_lt (length b) (place + 4)) (mark_at b place) refl (dec_le (place + 4 + length_at b place) (length b))
    where
      by :
          Dec (most < length b) → Dec (length b ≤ place) → Dec (length b < place + 4) → (mark : Bool) → mark_at b place ≡ mark
          → Dec (place + 4 + length_at b place ≤ length b) → There b place
      by (yes l) _ _ _ _ _ = record { what = _; stands = too_long l }
      by (no l) (yes e) _ _ _ _ = record { what = _; stands = no_byte (omega arith) e }
      by (no l) (no e) (yes h) _ _ _ = record { what = _; stands = short_header (omega arith) (omega arith) h }
      by (no l) (no e) (no h) false m _ = record { what = _; stands = wrong_mark (omega arith) (omega arith) m }
      by (no l) (no e) (no h) true m (no k) = record { what = _; stands = short_table (omega arith) (omega arith) m (omega arith) }
      by (no l) (no e) (no h) true m (yes k) = record { what = _; stands = a_table (omega arith) (omega arith) m k }

  pub stands_so : {s : Standing} → stands_at b place ≡ s → Stands b place s
  stands_so e = subst (Stands b place) (sym (stands_is there.stands) ∙ e) there.stands

-- ---- read back: what a table, and a clean end, say of the batch

-- no place has both
pub never_both : {A : Type 0} {s : Standing} {from to : ℕ} {e : End} → s ≡ table from to → s ≡ end e → A
never_both p q = absurd (let z : ◌≡◌ {A = ℕ} 0 1 = cc in omega arith)

-- the bytes of a table stand after its four-byte header, within the batch
pub record Inside (b : List ℕ) (place from to : ℕ) : Type 0 where
  pub small : length b ≤ most
  pub mark : mark_at b place ≡ true
  pub start : from ≡ place + 4
  pub stop : to ≡ place + 4 + length_at b place
  pub within : to ≤ length b

pub inside : {b : List ℕ} (place : ℕ) {from to : ℕ} → stands_at b place ≡ table from to → Inside b place from to
inside {b} place {from} {to} e = go (stands_so b place e) refl
  where
    go : {s : Standing} → Stands b place s → s ≡ table from to → Inside b place from to
    go (too_long _) is = never_both is refl
    go (no_byte _ _) is = never_both is refl
    go (short_header _ _ _) is = never_both is refl
    go (wrong_mark _ _ _) is = never_both is refl
    go (short_table _ _ _ _) is = never_both is refl
    go (a_table w h m k) is =
        let f : place + 4 ≡ from = cc in
        let t : place + 4 + length_at b place ≡ to = cc in
        record { small = w; mark = m; start = sym f; stop = sym t; within = omega arith }

-- a clean end stands where no byte is left
pub clean_end : (b : List ℕ) (place : ℕ) → stands_at b place ≡ end cleanly → length b ≤ place
clean_end b place e = go (stands_so b place e) refl
  where
    clean : {A : Type 0} {x : Told} → end (refused x) ≡ end cleanly → A
    clean is = absurd (let z : ◌≡◌ {A = ℕ} 0 1 = cc in omega arith)

    go : {s : Standing} → Stands b place s → s ≡ end cleanly → length b ≤ place
    go (too_long _) is = clean is
    go (no_byte _ h) is = h
    go (short_header _ _ _) is = clean is
    go (wrong_mark _ _ _) is = clean is
    go (short_table _ _ _ _) is = clean is
    go (a_table _ _ _ _) is = never_both refl is

-- a refusal has a number that document 02 names, a place of the batch, and no byte
pub record SmallRefusal (x : Told) : Type 0 where
  pub number : x.number ≤ 15
  pub place : x.place ≤ most
  pub byte : x.byte ≡ None

pub refusal_small : (b : List ℕ) (place : ℕ) {x : Told} → stands_at b place ≡ end (refused x) → SmallRefusal x
refusal_small b place {x} e = go (stands_so b place e) refl
  where
    told : {t : Told} → SmallRefusal t → end (refused t) ≡ end (refused x) → SmallRefusal x
    told {t} small is = let same : t ≡ x = cc in subst SmallRefusal same small

    go : {s : Standing} → Stands b place s → s ≡ end (refused x) → SmallRefusal x
    go (too_long _) is = told (record { number = omega arith; place = omega arith; byte = refl }) is
    go (no_byte _ _) is = absurd (let z : ◌≡◌ {A = ℕ} 0 1 = cc in omega arith)
    go (short_header w h _) is = told (record { number = omega arith; place = omega arith; byte = refl }) is
    go (wrong_mark w h _) is = told (record { number = omega arith; place = omega arith; byte = refl }) is
    go (short_table w h _ _) is = told (record { number = omega arith; place = omega arith; byte = refl }) is
    go (a_table _ _ _ _) is = never_both refl is

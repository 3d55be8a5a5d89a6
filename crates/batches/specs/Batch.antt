-- What a batch holds: its tables, in order, and how it ends.
use Rattle.std.specs.Prelude.{◌≡◌, Bool, cond, ◌&&◌, List, [], ◌∷◌, ℕ, ◌+◌, ◌-◌, eqb, leb, ltb, length, get_or, take, drop, Result, Ok, Err}
use Rattle.refusals.specs.declared.Refusal.{Refusal}
use Rattle.refusals.specs.declared.Told.{Told}
use Rattle.refusals.specs.Numbers.{at, told}
use Rattle.record.specs.Form.{word}
use Rattle.batches.specs.declared.Item.{Item}
use Rattle.batches.specs.declared.Item.TheVariants as item

-- "a batch of at most 60,000 bytes"
abbrev pub most : ℕ
most = 60000

-- "the two-byte mark 54 42 (hex)"
abbrev pub mark_is : ℕ → ℕ → Bool
mark_is first second = eqb first 84 && eqb second 66

-- "before each table the two-byte mark 54 42 (hex)": whether it stands at a place
abbrev pub mark_at : List ℕ → ℕ → Bool
mark_at b place = mark_is (get_or b place 0) (get_or b (place + 1) 0)

-- "and its length in bytes, two bytes, low byte first"
abbrev pub length_at : List ℕ → ℕ → ℕ
length_at b place = word (get_or b (place + 2) 0) (get_or b (place + 3) 0)

-- ---- what stands at a place

-- how a batch ends: cleanly, or with the number and the place of a refusal
pub data End : Type 0 where
  cleanly : End
  refused : Told → End

-- a table, from a byte to before another, or the end of the batch
pub data Standing : Type 0 where
  table : ℕ → ℕ → Standing
  end : End → Standing

-- What a header at `place` says in a batch of `size` bytes: "14 for a wrong batch mark, then 15 if fewer bytes are left than the length says". The
-- table stands after the four bytes of its header.
abbrev pub headed : Bool → ℕ → ℕ → ℕ → Standing
headed mark len place size =
    cond mark
    (cond (leb (place + 4 + len) size) (table (place + 4) (place + 4 + len)) (end (refused (at 15 place))))
    (end (refused (at 14 place)))

-- What stands at a place of the batch b, each test after the one before it.
unfoldable pub stands_at : List ℕ → ℕ → Standing
stands_at b place =
    -- "1 at 0, with no answers, for a batch above 60,000 bytes"
    cond (ltb most (length b)) (end (refused (at 1 0)))
    -- no byte is left
    (cond (leb (length b) place) (end cleanly)
    -- "at the byte where a header begins, 15 if fewer than four bytes are left"
    (cond (ltb (length b - place) 4) (end (refused (at 15 place)))
    -- then what the header says
    (headed (mark_at b place) (length_at b place) place (length b))))

-- ---- the whole batch

-- the bytes from one place to before another
abbrev pub part : List ℕ → ℕ → ℕ → List ℕ
part b from to = take (to - from) (drop from b)

-- from a place on the batch b holds these tables, in order, and ends so
pub data HoldsFrom (b : List ℕ) : ℕ → List (List ℕ) → End → Type 0 where
  no_more : {place : ℕ} {e : End} → stands_at b place ≡ end e → HoldsFrom b place [] e
  one_more :
      {place from to : ℕ} {tables : List (List ℕ)} {e : End} → stands_at b place ≡ table from to → HoldsFrom b to tables e
      → HoldsFrom b place (part b from to ∷ tables) e

-- the batch b holds these tables, in order, and ends so
pub record Holds (b : List ℕ) (tables : List (List ℕ)) (e : End) : Type 0 where
  pub all : HoldsFrom b 0 tables e

-- ---- two batches joined

-- "a refusal of the second has its place moved on by the first's length"
abbrev pub moved_on : ℕ → End → End
moved_on n cleanly = cleanly
moved_on n (refused t) = refused (record { number = t.number; place = n + t.place; byte = t.byte })

-- ---- what the code's values say

-- how it ended
abbrev pub end_of : Result (Unit {0}) Refusal → End
end_of (Ok _) = cleanly
end_of (Err r) = refused (told r)

-- what stands there
abbrev pub standing : Item → Standing
standing (item.Table from to) = table from to
standing (item.Ended e) = end (end_of e)

-- The byte that is named, in the cases that were decided, as facts of the definitions.
use Rattle.std.specs.Prelude.{Err}
use mathlib.Core.Path.{◌≡◌, refl}
use mathlib.Core.List.{List, [], ◌∷◌}
use Prim.Native.Nat.{ℕ}
use Rattle.refusals.specs.declared.Fault.TheVariants.{Mark, Kind, Rest, Thread}
use Rattle.record.specs.Form.{in_row, least_restless, decided_by, decode}

-- a load, NA, of thread 0 below record 0, without a source, of the number 7 at location 0: its kind lacks a value written
abbrev load : ℕ → ℕ → ℕ → List ℕ
load flags low high = 0x45 ∷ 0x56 ∷ 1 ∷ 0 ∷ 0 ∷ 0 ∷ 255 ∷ 0 ∷ flags ∷ 0 ∷ 7 ∷ 0 ∷ low ∷ high ∷ 0 ∷ 0 ∷ []

-- "a resting value 00 07 at 12 and 13 names 13"
pub high_byte_wrong : decode (load 0 0x00 0x07) ≡ Err (Rest 13)
unfolding in_row least_restless decided_by decode
high_byte_wrong = refl

pub both_bytes_wrong : decode (load 0 0x07 0x07) ≡ Err (Rest 12)
unfolding in_row least_restless decided_by decode
both_bytes_wrong = refl

-- "flags with a bit that the kind lacks, or above 3, name 8"
pub bit_that_the_kind_lacks : decode (load 2 0 0) ≡ Err (Rest 8)
unfolding in_row least_restless decided_by decode
bit_that_the_kind_lacks = refl

pub flags_above_3 : decode (load 4 0 0) ≡ Err (Rest 8)
unfolding in_row least_restless decided_by decode
flags_above_3 = refl

-- any record whose values and flags are 0
abbrev headed : ℕ → ℕ → ℕ → ℕ → ℕ → ℕ → List ℕ
headed first second kind order thread location =
    first ∷ second ∷ kind ∷ order ∷ thread ∷ 0 ∷ 255 ∷ location ∷ 0 ∷ 0 ∷ 0 ∷ 0 ∷ 0 ∷ 0 ∷ 0 ∷ 0 ∷ []

-- "for 2 byte 0 (also where only byte 1 is wrong)": `Mark` names byte 0
pub second_byte_of_the_mark : decode (headed 0x45 0x57 2 0 0 0) ≡ Err Mark
unfolding in_row least_restless decided_by decode
second_byte_of_the_mark = refl

-- of two that are wrong the first: kind and order, thread and location
pub kind_and_order : decode (headed 0x45 0x56 4 9 0 0) ≡ Err Kind
unfolding in_row least_restless decided_by decode
kind_and_order = refl

pub thread_and_location : decode (headed 0x45 0x56 2 0 16 32) ≡ Err Thread
unfolding in_row least_restless decided_by decode
thread_and_location = refl

-- The first records of a list of bytes, as a table of their own: what the test of each says there.
use Rattle.std.specs.Prelude.{Result}
use Rattle.refusals.specs.declared.Refusal.{Refusal}
use mathlib.Core.Path.{◌≡◌, sym}
use mathlib.Core.List.{List}
use Prim.Native.Nat.{ℕ, ◌*◌, ◌%◌, ◌<◌, ◌≤◌}
use native.Mathlib.Omega.{arith}
use lib.Dec.{T}
use lib.ListN.{length, take}
use lib.Seq.{length-take-le, take_all}
use Rattle.laws.specs.Says.{Says}
use Rattle.laws.proofs.Says.{says_iff, says_eq, says_le, says_not, says_and}
use Rattle.record.specs.Form.{decode, part}
use Rattle.record.proofs.Parts.{part_take}
use Rattle.table.specs.Events.{count_of, events_of}
use Rattle.limits.specs.Limit.{limit}
use Rattle.table.specs.Test.{length_ok, Passes, CheckAnswer, RecordsAnswer, TestAnswer, records}
use Rattle.table.specs.Computed.{checked}
use Rattle.table.specs.Standing.{Stands, AllStand}
use Rattle.table.proofs.Exact.{decodes_alike, check_exact}

module _ (b : List ℕ) (count : ℕ) (held : 16 * count ≤ length b) where
  front_length : length (take (16 * count) b) ≡ 16 * count
  front_length = length-take-le (16 * count) b held

  pub front_count : count_of (take (16 * count) b) ≡ count
  front_count =
      let long = front_length in
      omega arith

  pub front_part : (n : ℕ) → n < count → part b n ≡ part (take (16 * count) b) n
  front_part n h = sym (part_take b (16 * count) n (omega arith) held)

  pub front_exact : (n : ℕ) → n < count → CheckAnswer (take (16 * count) b) n (checked (events_of b).at n (decode (part b n)))
  front_exact n h =
      rw (front_part n h) (check_exact b (take (16 * count) b) n (λ m l. front_part m (omega arith)))

  -- records that pass as a table of their own stand in b
  pub front_stand : (n : ℕ) → n < count → Passes (take (16 * count) b) n → Stands b n
  front_stand n h passed = record { held = omega (arith, held); decodes = decodes_alike (sym (front_part n h)) passed.decodes }

  pub front_stands : (n : ℕ) → n ≤ count → ((m : ℕ) → m < n → Passes (take (16 * count) b) m) → AllStand b n
  front_stands n h passed =
      record { held = omega (arith, held); decodes = λ m l. (front_stand m (omega arith) (passed m l)).decodes }

-- ---- a table of a right length is the front of itself

pub record RightLength (len : ℕ) : Type 0 where
  pub some_bytes : ¬ (len ≡ 0)
  pub whole_records : len % 16 ≡ 0
  pub within : len ≤ 16 * limit

pub says_right_length : (len : ℕ) → Says (length_ok len) (RightLength len)
says_right_length len =
    says_iff
    (λ (a, (b, c)). record { some_bytes = a; whole_records = b; within = c })
    (λ r. (r.some_bytes, (r.whole_records, r.within)))
    (says_and (says_not (says_eq len 0)) (says_and (says_eq (len % 16) 0) (says_le len (16 * limit))))

pub right_length : (len : ℕ) → T (length_ok len) → RightLength len
right_length len = (says_right_length len).to

pub front_whole : (b : List ℕ) → T (length_ok (length b)) → take (16 * count_of b) b ≡ b
front_whole b h =
    let right = right_length (length b) h in
    take_all (16 * count_of b) b (omega arith)

-- so the test of all its records is the test of the table
pub records_test : (b : List ℕ) {a : Result ℕ Refusal} → T (length_ok (length b)) → RecordsAnswer (take (16 * count_of b) b) a → TestAnswer b a
records_test b right x = records right (rw (front_whole b right) at x)

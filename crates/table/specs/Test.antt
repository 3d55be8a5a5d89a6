-- The test of a table: refusals 1 to 8 of document 01, each given exactly where its row says, and which is the answer.
use Rattle.std.specs.Prelude.{◌≡◌, Bool, not, ◌&&◌, List, ℕ, ◌*◌, ◌%◌, ◌<◌, T, eqb, leb, length, Err, Ok, Result}
use Rattle.events.specs.declared.Record.{Record}
use Rattle.refusals.specs.declared.Fault.{Fault}
use Rattle.refusals.specs.declared.Fault.TheVariants.{Parent, Source, Twin}
use Rattle.refusals.specs.declared.Refusal.{Refusal}
use Rattle.refusals.specs.declared.Told.{Told}
use Rattle.refusals.specs.Numbers.{at, of_record, told}
use Rattle.limits.specs.Limit.{limit}
use Rattle.record.specs.Form.{record_size, decode, part}
use Rattle.model.specs.WellFormed.{Refused6, Refused7, Refused8}
use Rattle.table.specs.Events.{count_of, events_of}

-- not 1: "length 0, not a multiple of 16, or above" what the limit takes: "200 records, 3,200 bytes"
abbrev pub length_ok : ℕ → Bool
length_ok len = not (eqb len 0) && (eqb (len % record_size) 0 && leb len (record_size * limit))

module _ (b : List ℕ) where
  -- the sixteen bytes of record n pass 2 to 5
  pub record Decodes (n : ℕ) : Type 0 where
    pub value : Record
    pub read : decode (part b n) ≡ Ok value

  -- they are refused with one of 2 to 5 (`Refused` of crate `record` says when); or they are not, and 6, 7 or 8 is given:
  -- "numbers 2 to 8 in order within one"
  pub data FaultAt (n : ℕ) : Fault → Type 0 where
    by_bytes : {f : Fault} → decode (part b n) ≡ Err f → FaultAt n f
    by_6 : Decodes n → Refused6 (events_of b) n → FaultAt n Parent
    by_7 : Decodes n → ¬ Refused6 (events_of b) n → Refused7 (events_of b) n → FaultAt n Source
    by_8 : Decodes n → ¬ Refused6 (events_of b) n → ¬ Refused7 (events_of b) n → Refused8 (events_of b) n → FaultAt n Twin

  -- none of 2 to 8 is given for record n
  pub record Passes (n : ℕ) : Type 0 where
    pub decodes : Decodes n
    pub not_6 : ¬ Refused6 (events_of b) n
    pub not_7 : ¬ Refused7 (events_of b) n
    pub not_8 : ¬ Refused8 (events_of b) n

  pub data CheckAnswer (n : ℕ) : Result (Unit {0}) Fault → Type 0 where
    passes : Passes n → CheckAnswer n (Ok tt)
    faulty : {f : Fault} → FaultAt n f → CheckAnswer n (Err f)

  -- "Records are tested from 0 upward .. the first fault is the answer. Its place is the record number": what is told of it
  pub data FirstFault : Told → Type 0 where
    first_fault : {n : ℕ} {f : Fault} → n < count_of b → ((m : ℕ) → m < n → Passes m) → FaultAt n f → FirstFault (of_record f n)

  -- the test of the records alone
  pub data RecordsAnswer : Result ℕ Refusal → Type 0 where
    refused : {r : Refusal} → FirstFault (told r) → RecordsAnswer (Err r)
    sound : ((n : ℕ) → n < count_of b → Passes n) → RecordsAnswer (Ok (count_of b))

  -- the test of a table: 1 at 0, "then records"
  pub data TestAnswer : Result ℕ Refusal → Type 0 where
    wrong_length : {r : Refusal} → ¬ T (length_ok (length b)) → told r ≡ at 1 0 → TestAnswer (Err r)
    records : {a : Result ℕ Refusal} → T (length_ok (length b)) → RecordsAnswer a → TestAnswer a

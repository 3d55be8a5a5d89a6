-- The rows 2 to 5 of document 01's table of refusals, as propositions on the sixteen bytes of a record, and which byte is at fault.
use Rattle.refusals.specs.declared.Fault.{Fault}
use Rattle.events.specs.declared.Record.{Record}
use Rattle.std.specs.Prelude.{◌≡◌, List, ℕ, ◌%◌, ◌≤◌, T, Some, Err, Ok, Result}
use Rattle.laws.specs.Least.{LeastNumber}
use Rattle.refusals.specs.declared.Fault.TheVariants.{Mark, Kind, Order, Rest, Thread, Location}
use Rattle.record.specs.Form.{byte_at, kind_byte, order_byte, thread_byte, source_byte, location_byte, flags_byte, reads_kind, writes_kind, in_row, record_from}

module _ (b : List ℕ) where
  -- not 2: "mark is not 45 56"
  pub record Marked : Type 0 where
    pub first : byte_at b 0 ≡ 0x45
    pub second : byte_at b 1 ≡ 0x56

  -- not 3: "kind above 3, or order not in that kind's row". A kind above 3 has no row
  abbrev pub InRow : Type 0
  InRow = T (in_row (kind_byte b) (order_byte b))

  abbrev pub Reads : Type 0
  Reads = T (reads_kind (kind_byte b))

  abbrev pub Writes : Type 0
  Writes = T (writes_kind (kind_byte b))

  -- "1 if the value read is u, plus 2 if the value written is u"
  abbrev pub ReadU : Type 0
  ReadU = flags_byte b % 2 ≡ 1

  abbrev pub WrittenU : Type 0
  WrittenU = 2 ≤ flags_byte b

  -- not 4: "byte 8 above 3, or a field that should rest doesn't". "A field that a kind lacks holds 0 (source: 255; byte 8: no bit
  -- for it), and so does the number of a value that is u": what its bytes hold then
  abbrev pub SourceRests : Type 0
  SourceRests = ¬ Reads → source_byte b ≡ 255

  abbrev pub LocationRests : Type 0
  LocationRests = kind_byte b ≡ 0 → location_byte b ≡ 0

  pub record FlagsRest : Type 0 where
    pub few : flags_byte b ≤ 3
    pub read_bit : ¬ Reads → ¬ ReadU
    pub written_bit : ¬ Writes → ¬ WrittenU

  -- byte i, of the value read
  abbrev pub ReadRests : ℕ → Type 0
  ReadRests i = ¬ (Reads × ¬ ReadU) → byte_at b i ≡ 0

  -- byte i, of the value written
  abbrev pub WrittenRests : ℕ → Type 0
  WrittenRests i = ¬ (Writes × ¬ WrittenU) → byte_at b i ≡ 0

  pub record Rested : Type 0 where
    pub source : SourceRests
    pub location : LocationRests
    pub flags : FlagsRest
    pub nine : byte_at b 9 ≡ 0
    pub read_low : ReadRests 10
    pub read_high : ReadRests 11
    pub written_low : WrittenRests 12
    pub written_high : WrittenRests 13
    pub fourteen : byte_at b 14 ≡ 0
    pub fifteen : byte_at b 15 ≡ 0

  -- where 4 is given, the bytes that are at fault: each that is itself wrong
  pub data AtFault : ℕ → Type 0 where
    byte_6 : ¬ SourceRests → AtFault 6
    byte_7 : ¬ LocationRests → AtFault 7
    byte_8 : ¬ FlagsRest → AtFault 8
    byte_9 : ¬ (byte_at b 9 ≡ 0) → AtFault 9
    byte_10 : ¬ ReadRests 10 → AtFault 10
    byte_11 : ¬ ReadRests 11 → AtFault 11
    byte_12 : ¬ WrittenRests 12 → AtFault 12
    byte_13 : ¬ WrittenRests 13 → AtFault 13
    byte_14 : ¬ (byte_at b 14 ≡ 0) → AtFault 14
    byte_15 : ¬ (byte_at b 15 ≡ 0) → AtFault 15

  -- not 5: "thread above 15 or location above 31"
  pub record InRange : Type 0 where
    pub thread : thread_byte b ≤ 15
    pub location : location_byte b ≤ 31

  -- "numbers 2 to 8 in order within one; the first fault is the answer"
  pub data ReadAs : Result Record Fault → Type 0 where
    good : Marked → InRow → Rested → InRange → ReadAs (Ok (record_from b))
    bad_2 : ¬ Marked → ReadAs (Err Mark)
    -- "for 3 byte 2 if the kind is above 3, else 3"
    bad_3_kind : Marked → ¬ InRow → ¬ (kind_byte b ≤ 3) → ReadAs (Err Kind)
    bad_3_order : Marked → ¬ InRow → kind_byte b ≤ 3 → ReadAs (Err Order)
    -- "for 4 the least byte at fault"
    bad_4 : {i : ℕ} → Marked → InRow → ¬ Rested → LeastNumber AtFault (Some i) → ReadAs (Err (Rest i))
    -- "for 5 byte 4 if the thread is at fault, else 7"
    bad_5_thread : Marked → InRow → Rested → ¬ InRange → ¬ (thread_byte b ≤ 15) → ReadAs (Err Thread)
    bad_5_location : Marked → InRow → Rested → ¬ InRange → thread_byte b ≤ 15 → ReadAs (Err Location)

-- What the tests 2 and 4 tell of sixteen bytes, test 4 byte by byte.
use mathlib.Core.Path.{◌≡◌}
use mathlib.Core.Bool.{Bool, true, false, not, ◌&&◌, ◌||◌}
use mathlib.Core.List.{List}
use Prim.Native.Nat.{ℕ, ◌%◌}
use lib.Dec.{eqb}
use Rattle.laws.specs.Says.{Says}
use Rattle.laws.proofs.Says.{says_yes, says_T, says_eq, says_le, says_not, says_and, says_if, says_iff}
use Rattle.record.specs.Form.{byte_at, kind_byte, source_byte, flags_byte, reads_kind, writes_kind, read_u, written_u, marked, rests_at, rested}
use Rattle.record.specs.Refused.{Marked, Reads, Writes, ReadU, WrittenU, SourceRests, LocationRests, FlagsRest, ReadRests, WrittenRests, Rested}

-- a test for "unless P, Q"
says_unless : {a b : Bool} {P Q : Type 0} → Says a P → Says b Q → Says (a || b) (¬ P → Q)
says_unless {a = true} s r = record { to = λ _ n. absurd (n (s.to tt)); from = λ _. tt }
says_unless {a = false} s r = record { to = λ x _. r.to x; from = λ f. r.from (f (λ p. s.from p)) }

module _ (b : List ℕ) where
  pub says_marked : Says (marked b) (Marked b)
  says_marked =
      says_iff (λ (x, y). record { first = x; second = y }) (λ m. (m.first, m.second))
      (says_and (says_eq (byte_at b 0) 0x45) (says_eq (byte_at b 1) 0x56))

  reads : Says (reads_kind (kind_byte b)) (Reads b)
  reads = says_T (reads_kind (kind_byte b))

  writes : Says (writes_kind (kind_byte b)) (Writes b)
  writes = says_T (writes_kind (kind_byte b))

  pub read_u_lem : Says (read_u (flags_byte b)) (ReadU b)
  read_u_lem = says_eq (flags_byte b % 2) 1

  pub written_u_lem : Says (written_u (flags_byte b)) (WrittenU b)
  written_u_lem = says_le 2 (flags_byte b)

  pub zero_at : (i : ℕ) → Says (eqb (byte_at b i) 0) (byte_at b i ≡ 0)
  zero_at i = says_eq (byte_at b i) 0

  pub source_rests : Says (rests_at b 6) (SourceRests b)
  source_rests = says_unless reads (says_eq (source_byte b) 255)

  pub location_rests : Says (rests_at b 7) (LocationRests b)
  location_rests = says_if (says_eq (kind_byte b) 0) (zero_at 7)

  pub flags_rest_lem : Says (rests_at b 8) (FlagsRest b)
  flags_rest_lem =
      says_iff (λ (few, (read_bit, written_bit)). record { few = few; read_bit = read_bit; written_bit = written_bit })
      (λ r. (r.few, (r.read_bit, r.written_bit)))
      (says_and (says_le (flags_byte b) 3) (says_and (says_unless reads (says_not read_u_lem)) (says_unless writes (says_not written_u_lem))))

  pub read_rests : (i : ℕ) → Says ((reads_kind (kind_byte b) && not (read_u (flags_byte b))) || eqb (byte_at b i) 0) (ReadRests b i)
  read_rests i = says_unless (says_and reads (says_not read_u_lem)) (zero_at i)

  pub written_rests : (i : ℕ) → Says ((writes_kind (kind_byte b) && not (written_u (flags_byte b))) || eqb (byte_at b i) 0) (WrittenRests b i)
  written_rests i = says_unless (says_and writes (says_not written_u_lem)) (zero_at i)

  pub says_rested : Says (rested b) (Rested b)
  says_rested =
      says_iff
      (λ (source, (location, (flags, (nine, (read_low, (read_high, (written_low, (written_high, (fourteen, (fifteen, _)))))))))).
      record {
        source = source;
        location = location;
        flags = flags;
        nine = nine;
        read_low = read_low;
        read_high = read_high;
        written_low = written_low;
        written_high = written_high;
        fourteen = fourteen;
        fifteen = fifteen;
      })
      (λ r.
      (r.source, (r.location, (r.flags, (r.nine, (r.read_low, (r.read_high, (r.written_low, (r.written_high, (r.fourteen, (r.fifteen, tt {0})))))))))))
      (says_and source_rests
      (says_and location_rests
      (says_and flags_rest_lem
      (says_and (zero_at 9)
      (says_and (read_rests 10)
      (says_and (read_rests 11)
      (says_and (written_rests 12) (says_and (written_rests 13) (says_and (zero_at 14) (says_and (zero_at 15) (says_yes (tt {0}))))))))))))

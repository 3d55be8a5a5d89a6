-- Round trips of a whole table: written out and read back it is the same events, and read and written back the same bytes.
use Rattle.std.specs.Prelude.{Ok}
use mathlib.Core.Path.{◌≡◌, refl, sym, subst, subst⁻¹, ap, ap₂, ◌∙◌}
use mathlib.Core.List.{List, ◌++◌}
use Prim.Native.Nat.{ℕ, zero, suc, ◌+◌, ◌*◌, ◌<◌, ◌≤◌}
use native.Mathlib.Omega.{arith}
use native.Mathlib.Decide.{dec_lt}
use lib.Dec.{T}
use lib.ListN.{length, take, length-append}
use Rattle.events.specs.declared.Record.{Record}
use Rattle.record.specs.Form.{decode, encode, part}
use Rattle.record.specs.Fits.{Bytes, Fits}
use Rattle.record.proofs.RoundTrip.{decode_encode, encode_decode}
use Rattle.record.proofs.Parts.{encode_length, part_append, part_last, whole_part, front_more}
use Rattle.model.specs.Table.{Table, Ends, Inside}
use Rattle.model.specs.WellFormed.{WellFormed, Sound as Model-as-Sound}
use Rattle.table.specs.Events.{count_of, events_of, written, bytes_of}
use Rattle.limits.specs.Limit.{limit}
use Rattle.table.specs.Test.{length_ok, Passes, RecordsAnswer, sound, TestAnswer, records}
use Rattle.table.proofs.Exact.{at_decoded, decoded_at}
use Rattle.table.proofs.Front.{says_right_length, front_whole}
use Rattle.table.proofs.WellFormed.{test_pass, events_end, sound_count}

-- ---- the records one after another

module _ (at : ℕ → Record) where
  pub written_length : (n : ℕ) → length (written at n) ≡ 16 * n
  unfolding written
  written_length zero = refl
  written_length (suc n) =
      length-append (written at n) (encode (at n)) ∙ (ap₂ ◌+◌ (written_length n) (encode_length (at n)) ∙ omega arith)

  pub written_part : (n m : ℕ) → m < n → part (written at n) m ≡ encode (at m)
  unfolding written
  written_part zero m h = absurd (omega arith)
  written_part (suc n) m h = go (dec_lt m n) (λ l. written_part n m l)
    where
      go : Dec (m < n) → (m < n → part (written at n) m ≡ encode (at m)) → part (written at n ++ encode (at n)) m ≡ encode (at m)
      go (yes l) before = part_append (written at n) (encode (at n)) m (omega (arith, written_length n)) ∙ before l
      go (no l) before =
          let same : n ≡ m = omega arith in
          subst (λ (k : ℕ). part (written at n ++ encode (at n)) k ≡ encode (at k)) same
          (part_last (written at n) (encode (at n)) n (written_length n) (encode_length (at n)))

-- ---- written out and read back

module _ (t : Table) (ends : Ends t) (fits : (n : ℕ) → Inside t n → Fits (t.at n)) where
  written_decodes : (n : ℕ) → Inside t n → decode (part (bytes_of t) n) ≡ Ok (t.at n)
  written_decodes n h = ap decode (written_part t.at t.count n h) ∙ decode_encode (t.at n) (fits n h)

  written_count : count_of (bytes_of t) ≡ t.count
  written_count = omega (arith, written_length t.at t.count)

  written_at : (n : ℕ) → (events_of (bytes_of t)).at n ≡ t.at n
  unfolding events_of
  written_at n = go (dec_lt n t.count)
    where
      go : Dec (n < t.count) → (events_of (bytes_of t)).at n ≡ t.at n
      go (yes h) = at_decoded (bytes_of t) n (written_decodes n h)
      go (no h) =
          (events_end (bytes_of t) (omega (arith, written_length t.at t.count))).past n (omega (arith, written_count))
          ∙ sym (ends.past n (omega arith))

  pub written_read : events_of (bytes_of t) ≡ t
  unfolding events_of
  written_read = λ i. record { count = written_count i; at = λ n. written_at n i }

  written_passes : ((n : ℕ) → Inside t n → Model-as-Sound t n) → (n : ℕ) → n < count_of (bytes_of t) → Passes (bytes_of t) n
  written_passes well n h =
      let inside : n < t.count = omega (arith, written_count) in
      let s = subst⁻¹ (λ (u : Table). Model-as-Sound u n) written_read (well n inside) in
      record {
        decodes = record { value = t.at n; read = written_decodes n inside };
        not_6 = s.not_6;
        not_7 = s.not_7;
        not_8 = s.not_8;
      }

-- every well-formed table within the limit, written out, is read back as itself
pub written_sound : (t : Table) → WellFormed t → ((n : ℕ) → Inside t n → Fits (t.at n)) → t.count ≤ limit → TestAnswer (bytes_of t) (Ok t.count)
written_sound t well fits small =
    let long = written_length t.at t.count in
    let some = well.some_record in
    let count = written_count t well.ends fits in
    let right : T (length_ok (length (bytes_of t))) = (says_right_length (length (bytes_of t))).from (omega arith) in
    records right
    (subst (λ (k : ℕ). RecordsAnswer (bytes_of t) (Ok k)) count (sound (written_passes t well.ends fits well.sound)))

-- ---- read and written back

read_front :
    (b : List ℕ) → Bytes b → ((m : ℕ) → m < count_of b → Passes b m) → (k : ℕ) → k ≤ count_of b → written (events_of b).at k ≡ take (16 * k) b
unfolding written
read_front b bytes each zero h = refl
read_front b bytes each (suc k) h =
    let last =
    encode_decode (part b k) ((events_of b).at k) (whole_part b k bytes (omega arith)) (decoded_at b k (each k (omega arith)).decodes)
    in
    ap₂ ◌++◌ (read_front b bytes each k (omega arith)) last ∙ sym (front_more b k)

pub read_written : (b : List ℕ) (n : ℕ) → Bytes b → TestAnswer b (Ok n) → bytes_of (events_of b) ≡ b
read_written b n bytes x =
    let (ok, all) = test_pass b n x in
    ap (written (events_of b).at) (sound_count b n x ∙ all.count) ∙ (read_front b bytes all.each (count_of b) (omega arith) ∙ front_whole b ok)

-- The round trips between records and their sixteen bytes, and what a record that was read is known to be.
use Rattle.std.specs.Prelude.{None, Some, Ok}
use mathlib.Core.Path.{◌≡◌, refl, sym, subst, subst⁻¹, ap, ◌∙◌}
use mathlib.Core.Bool.{Bool, true, false}
use mathlib.Core.List.{List}
use Prim.Native.Nat.{ℕ, ◌<◌, ◌≤◌}
use native.Mathlib.Omega.{arith}
use lib.Dec.{T, eqb, eqb→eq}
use borrow.Author.Tests.{eqb-false}
use Rattle.events.specs.declared.Order.{Order}
use Rattle.events.specs.declared.Value.{Value}
use Rattle.events.specs.declared.Value.TheVariants.{Known}
use Rattle.events.specs.declared.Record.{Record}
use Rattle.events.specs.Words.{code_of, is_read}
use Rattle.record.specs.declared.written.Columns.{Columns}
use Rattle.record.specs.Form.{pick, byte_at, kind_byte, order_byte, parent_byte, source_byte, location_byte, flags_byte, reads_kind, writes_kind, read_u, written_u, in_row, order_from, link_from, value_from, event_from, word, read_from, written_from, record_from, decode, number_of, columns_of, encode}
use Rattle.record.specs.Refused.{Marked, InRow, Rested, InRange, ReadAs, good}
use Rattle.record.specs.Fits.{Bytes, Fits}
use Rattle.record.proofs.Exact.{read_as}
use Rattle.record.proofs.BytesBack.{kind_below, columns_by, columns_by_lem, order_of_row, rests, same_bytes}
use Rattle.record.proofs.Cases.{four}
use Rattle.record.proofs.Parts.{Whole}
pub use Rattle.record.proofs.RecordBack.{decode_encode}

-- what is read as a record passed the four tests, and is the record of its fields
pub record Passed (b : List ℕ) (r : Record) : Type 0 where
  pub marked : Marked b
  pub row : InRow b
  pub rested : Rested b
  pub in_range : InRange b
  pub same : record_from b ≡ r

pub passed : (b : List ℕ) (r : Record) → decode b ≡ Ok r → Passed b r
passed b r e = go r (subst (ReadAs b) e (read_as b))
  where
    go : (r : Record) → ReadAs b (Ok r) → Passed b r
    go r (good m w s g) = record { marked = m; row = w; rested = s; in_range = g; same = refl }

link_to : (x n : ℕ) → link_from x ≡ Some n → (n ≡ x) × ¬ (n ≡ 255)
unfolding link_from
link_to x n e = go (eqb x 255) refl e
  where
    go : (t : Bool) → eqb x 255 ≡ t → pick t None (Some x) ≡ Some n → (n ≡ x) × ¬ (n ≡ 255)
    go true t e = absurd (let z : ◌≡◌ {A = ℕ} 0 1 = cc in omega arith)
    go false t e =
        let s : n ≡ x = cc in
        (s, λ h. eqb-false x 255 t (sym s ∙ h))

link_below : (x : ℕ) → x < 256 → (n : ℕ) → link_from x ≡ Some n → n < 255
link_below x small n e =
    let (same, apart) = link_to x n e in
    omega arith

absent : (x : ℕ) → x ≡ 255 → link_from x ≡ None
unfolding link_from
absent x e = rw e

reads_by : (o : Order) (x : ℕ) (v w : Value) (k : ℕ) → k < 4 → is_read (event_from k o x v w) ≡ reads_kind k
unfolding event_from
reads_by o x v w = four (λ (k : ℕ). is_read (event_from k o x v w) ≡ reads_kind k) refl refl refl refl

-- a number that two bytes hold, or the 0 of a value that rests
number_below : (has u : Bool) (low high : ℕ) → low < 256 → high < 256 → number_of (pick has (value_from u (word low high)) (Known 0)) < 65536
unfolding value_from
number_below true true low high l h = omega arith
number_below true false low high l h = omega arith
number_below false u low high l h = omega arith

module _ (b : List ℕ) (row : InRow b) (rest : Rested b) where
  reads_kind_lem : is_read (record_from b).event ≡ reads_kind (kind_byte b)
  reads_kind_lem =
      reads_by (order_from (order_byte b)) (location_byte b) (read_from b) (written_from b) (kind_byte b) (kind_below (kind_byte b) (order_byte b) row)

  no_source : ¬ T (is_read (record_from b).event) → (record_from b).source ≡ None
  no_source n = absent (source_byte b) (rest.source (λ k. n (rw reads_kind_lem k)))

  -- what holds of the columns that the bytes give holds of the event's
  of_columns :
      (P : Columns → Type 0) → P (columns_by (kind_byte b) (order_from (order_byte b)) (location_byte b) (read_from b) (written_from b)) → P (columns_of (record_from b).event)
  of_columns P =
      subst⁻¹ P (columns_by_lem (order_from (order_byte b)) (location_byte b) (read_from b) (written_from b) (kind_byte b) (kind_below (kind_byte b) (order_byte b) row))

  fits_from : Bytes b → InRange b → Fits (record_from b)
  fits_from bytes range =
      let k = kind_byte b in
      let f = flags_byte b in
      record {
        row = of_columns (λ c. T (in_row c.kind (code_of c.order))) (rw (order_of_row k (order_byte b) row) row);
        thread = range.thread;
        location =
            of_columns (λ c. c.location ≤ 31)
            (rw (rests (eqb k 0) (location_byte b) (λ t. rest.location (eqb→eq k 0 t))) range.location);
        parent = link_below (parent_byte b) (bytes.below 5);
        source = link_below (source_byte b) (bytes.below 6);
        only_reads = no_source;
        read =
            of_columns (λ c. number_of c.read < 65536)
            (number_below (reads_kind k) (read_u f) (byte_at b 10) (byte_at b 11) (bytes.below 10) (bytes.below 11));
        written =
            of_columns (λ c. number_of c.written < 65536)
            (number_below (writes_kind k) (written_u f) (byte_at b 12) (byte_at b 13) (bytes.below 12) (bytes.below 13));
      }

-- and only reads have a source
pub only_reads : (b : List ℕ) (r : Record) → decode b ≡ Ok r → ¬ T (is_read r.event) → r.source ≡ None
only_reads b r e =
    let q = passed b r e in
    subst (λ (x : Record). ¬ T (is_read x.event) → x.source ≡ None) q.same (no_source b q.row q.rested)

-- a record that was read fits
pub decode_fits : (b : List ℕ) (r : Record) → Bytes b → decode b ≡ Ok r → Fits r
decode_fits b r bytes e =
    let q = passed b r e in
    subst Fits q.same (fits_from b q.row q.rested bytes q.in_range)

-- "bytes that are read, written back, are the same bytes"
pub encode_decode : (b : List ℕ) (r : Record) → Whole b → decode b ≡ Ok r → encode r ≡ b
encode_decode b r whole e =
    let q = passed b r e in
    ap encode (sym q.same) ∙ same_bytes b whole q.marked q.row q.rested

-- Bytes that are read, written back, are the same bytes.
use Rattle.std.specs.Prelude.{None, Some}
use mathlib.Core.Path.{◌≡◌, refl, sym, subst, ap, ◌∙◌}
use mathlib.Core.Bool.{Bool, true, false}
use mathlib.Core.List.{List, [], ◌∷◌}
use Prim.Native.Nat.{ℕ, zero, suc, ◌+◌, ◌/◌, ◌%◌, ◌<◌}
use native.Mathlib.Omega.{arith}
use lib.Dec.{T, eqb, eqb→eq}
use lib.ListN.{length, get_or, drop, drop_of_length-le}
use lib.Seq.{drop-cons}
use Rattle.events.specs.declared.Order.{Order}
use Rattle.events.specs.declared.Order.TheVariants.{Na}
use Rattle.events.specs.declared.Value.{Value}
use Rattle.events.specs.declared.Value.TheVariants.{U, Known}
use Rattle.events.specs.Words.{code_of}
use Rattle.laws.specs.Says.{Says}
use Rattle.record.specs.declared.written.Columns.{Columns}
use Rattle.record.specs.Form.{pick, byte_at, kind_byte, order_byte, thread_byte, parent_byte, source_byte, location_byte, flags_byte, reads_kind, writes_kind, read_u, written_u, rows, in_row, order_from, link_from, link_byte, word, value_from, event_from, read_from, written_from, record_from, number_of, flags_of, columns_of, bytes_by, encode}
use Rattle.record.specs.Refused.{Marked, InRow, Rested}
use Rattle.record.proofs.Cases.{four, five}
use Rattle.record.proofs.Tests.{read_u_lem, written_u_lem}
use Rattle.record.proofs.Parts.{Whole}

-- ---- kinds and orders

-- an entry that is set lies within its list
within_list : {A : Type 0} (set? : A → Bool) (d : A) → ¬ T (set? d) → (l : List A) (i : ℕ) → T (set? (get_or l i d)) → i < length l
within_list set? d unset [] i h = absurd (unset h)
within_list set? d unset (a ∷ l) zero h = omega arith
within_list set? d unset (a ∷ l) (suc i) h =
    let below = within_list set? d unset l i h in
    omega arith

module _ (k o : ℕ) (row : T (in_row k o)) where
  pub kind_below : k < 4
  unfolding in_row
  kind_below = within_list (λ (r : List ℕ). eqb (get_or r o 0) 1) [] (λ x. x) rows k row

  pub order_below : o < 5
  unfolding in_row
  order_below =
      four (λ (m : ℕ). T (in_row m o) → o < 5) (in_row_lem 0 refl) (in_row_lem 1 refl) (in_row_lem 2 refl) (in_row_lem 3 refl) k kind_below row
    where
      in_row_lem : (m : ℕ) → length (get_or rows m []) ≡ 5 → T (in_row m o) → o < 5
      in_row_lem m five h =
          let below = within_list (λ (x : ℕ). eqb x 1) 0 (λ x. x) (get_or rows m []) o h in
          omega arith

code_back : (o : ℕ) → o < 5 → code_of (order_from o) ≡ o
unfolding order_from
code_back = five (λ (o : ℕ). code_of (order_from o) ≡ o) refl refl refl refl refl

-- the columns of the event that is made of a kind and its fields
abbrev pub columns_by : ℕ → Order → ℕ → Value → Value → Columns
columns_by k o x v w = record {
  kind = k;
  order = pick (eqb k 0) Na o;
  location = pick (eqb k 0) 0 x;
  read = pick (reads_kind k) v (Known 0);
  written = pick (writes_kind k) w (Known 0);
}

pub columns_by_lem :
    (o : Order) (x : ℕ) (v w : Value) (k : ℕ) → k < 4 → columns_of (event_from k o x v w) ≡ columns_by k o x v w
unfolding event_from
columns_by_lem o x v w = four (λ (k : ℕ). columns_of (event_from k o x v w) ≡ columns_by k o x v w) refl refl refl refl

-- an Init's row has NA only
pub order_of_row : (k o : ℕ) → T (in_row k o) → code_of (pick (eqb k 0) Na (order_from o)) ≡ o
unfolding in_row
order_of_row k o row =
    four (λ (m : ℕ). T (in_row m o) → code_of (pick (eqb m 0) Na (order_from o)) ≡ o)
    (five (λ (n : ℕ). T (in_row 0 n) → 0 ≡ n) (λ h. refl) (λ h. absurd h) (λ h. absurd h) (λ h. absurd h) (λ h. absurd h) o below)
    (λ h. code_back o below)
    (λ h. code_back o below)
    (λ h. code_back o below)
    k
    (kind_below k o row)
    row
  where
    below : o < 5
    below = order_below k o row

pub link_byte_back : (n : ℕ) → link_byte (link_from n) ≡ n
unfolding link_from
link_byte_back n = go (eqb n 255) refl
  where
    go : (b : Bool) → eqb n 255 ≡ b → link_byte (pick b None (Some n)) ≡ n
    go true e = sym (eqb→eq n 255 (subst T (sym e) tt))
    go false e = refl

-- ---- what rests

pub rests : (lacks : Bool) (x : ℕ) → (T lacks → x ≡ 0) → pick lacks 0 x ≡ x
rests true x h = sym (h tt)
rests false x h = refl

abbrev is_u : Value → Bool
is_u U = true
is_u (Known n) = false

-- a value by its two bytes, where the kind has it or lacks it, and it is u or a number
value_bytes :
    (has u : Bool) {IsU : Type 0} → Says u IsU → (low high : ℕ) → low < 256 → (¬ (T has × ¬ IsU) → low ≡ 0) → (¬ (T has × ¬ IsU) → high ≡ 0) → (number_of (pick has (value_from u (word low high)) (Known 0)) % 256 ≡ low) × (number_of (pick has (value_from u (word low high)) (Known 0)) / 256 ≡ high)
unfolding value_from
value_bytes true false s low high small l h = (omega arith, omega arith)
value_bytes true true s low high small l h = (sym (l (λ (x, n). n (s.to tt))), sym (h (λ (x, n). n (s.to tt))))
value_bytes false u s low high small l h = (sym (l (λ (x, n). x)), sym (h (λ (x, n). x)))

u_back : (has u : Bool) {IsU : Type 0} → Says u IsU → (n : ℕ) → (¬ T has → ¬ IsU) → is_u (pick has (value_from u n) (Known 0)) ≡ u
unfolding value_from
u_back true true s n h = refl
u_back true false s n h = refl
u_back false true s n h = absurd (h (λ x. x) (s.to tt))
u_back false false s n h = refl

flags_by : (v w : Value) → flags_of v w ≡ pick (is_u v) (pick (is_u w) 3 1) (pick (is_u w) 2 0)
flags_by U U = refl
flags_by U (Known n) = refl
flags_by (Known m) U = refl
flags_by (Known m) (Known n) = refl

flags_back : (f : ℕ) → f < 4 → pick (read_u f) (pick (written_u f) 3 1) (pick (written_u f) 2 0) ≡ f
flags_back = four (λ (f : ℕ). pick (read_u f) (pick (written_u f) 3 1) (pick (written_u f) 2 0) ≡ f) refl refl refl refl

-- ---- the sixteen bytes

-- a list as its elements, n of them from index i
abbrev pub firsts : List ℕ → ℕ → ℕ → List ℕ
firsts b i zero = []
firsts b i (suc n) = get_or b i 0 ∷ firsts b (suc i) n

pub listed : (b : List ℕ) (n i : ℕ) → length b ≡ i + n → drop i b ≡ firsts b i n
listed b zero i h = drop_of_length-le b {i = i} (omega arith)
listed b (suc n) i h =
    drop-cons b i 0 (omega arith) ∙ ap (λ (t : List ℕ). get_or b i 0 ∷ t) (listed b n (suc i) (omega arith))

each_byte : (b : List ℕ) → Whole b → Marked b → InRow b → Rested b → encode (record_from b) ≡ firsts b 0 16
unfolding encode
each_byte b whole mark row rest =
    let k = kind_byte b in
    let o = order_byte b in
    let f = flags_byte b in
    let columns = columns_by_lem (order_from o) (location_byte b) (read_from b) (written_from b) k (kind_below k o row) in
    let read = value_bytes (reads_kind k) (read_u f) (read_u_lem b) (byte_at b 10) (byte_at b 11) whole.low_read rest.read_low rest.read_high in
    let written = value_bytes (writes_kind k) (written_u f) (written_u_lem b) (byte_at b 12) (byte_at b 13) whole.low_written rest.written_low rest.written_high in
    let small : f < 4 = omega (arith, rest.flags.few) in
    ap (bytes_by (thread_byte b) (link_from (parent_byte b)) (link_from (source_byte b))) columns
    ∙ simp (
      order_of_row k o row,
      link_byte_back (parent_byte b),
      link_byte_back (source_byte b),
      rests (eqb k 0) (location_byte b) (λ t. rest.location (eqb→eq k 0 t)),
      flags_by,
      u_back (reads_kind k) (read_u f) (read_u_lem b) (word (byte_at b 10) (byte_at b 11)) rest.flags.read_bit,
      u_back (writes_kind k) (written_u f) (written_u_lem b) (word (byte_at b 12) (byte_at b 13)) rest.flags.written_bit,
      flags_back f small,
      read.0,
      read.1,
      written.0,
      written.1,
      mark.first,
      mark.second,
      rest.nine,
      rest.fourteen,
      rest.fifteen,
    )

pub same_bytes : (b : List ℕ) → Whole b → Marked b → InRow b → Rested b → encode (record_from b) ≡ b
same_bytes b whole mark row rest = each_byte b whole mark row rest ∙ sym (listed b 16 0 whole.long)

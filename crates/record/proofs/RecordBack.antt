-- A record that fits, written and read back, is the same record.
use Rattle.std.specs.Prelude.{Option, None, Some, Ok}
use mathlib.Core.Path.{◌≡◌, refl, ap}
use mathlib.Core.Bool.{true}
use Prim.Native.Nat.{ℕ, ◌+◌, ◌*◌, ◌/◌, ◌%◌, ◌<◌}
use native.Mathlib.Omega.{arith}
use lib.Dec.{T}
use borrow.Author.Tests.{ne_eqb, le-leb}
use Rattle.events.specs.declared.Order.{Order}
use Rattle.events.specs.declared.Order.TheVariants.{Na, Acq, Rel, Ar, Sc}
use Rattle.events.specs.declared.Value.{Value}
use Rattle.events.specs.declared.Value.TheVariants.{U, Known}
use Rattle.events.specs.declared.Event.{Event}
use Rattle.events.specs.declared.Event.TheVariants.{Init, Load, Store, Update}
use Rattle.events.specs.declared.Record.{Record}
use Rattle.events.specs.Words.{code_of, is_read}
use Rattle.laws.proofs.Says.{says_T}
use Rattle.record.specs.declared.written.Columns.{Columns}
use Rattle.record.specs.Form.{order_from, link_from, link_byte, word, read_u, written_u, value_from, event_from, number_of, flags_of, in_row, rested, decided_by, decode, columns_of, bytes_by, encode}
use Rattle.record.specs.Fits.{Fits}
use Rattle.record.proofs.BytesBack.{kind_below}
use Rattle.record.proofs.Exact.{is_true}

order_back : (o : Order) → order_from (code_of o) ≡ o
unfolding order_from
order_back Na = refl
order_back Acq = refl
order_back Rel = refl
order_back Ar = refl
order_back Sc = refl

link_back_lem : (l : Option ℕ) → ¬ (l ≡ Some 255) → link_from (link_byte l) ≡ l
unfolding link_from
link_back_lem None h = refl
link_back_lem (Some n) h = rw (ne_eqb n 255 (λ e. h (ap Some e)))

word_back : (n : ℕ) → n % 256 + 256 * (n / 256) ≡ n
word_back n = omega arith

read_back : (v w : Value) → value_from (read_u (flags_of v w)) (word (number_of v % 256) (number_of v / 256)) ≡ v
unfolding value_from
read_back U U = refl
read_back U (Known n) = refl
read_back (Known m) U = ap Known (word_back m)
read_back (Known m) (Known n) = ap Known (word_back m)

written_back : (v w : Value) → value_from (written_u (flags_of v w)) (word (number_of w % 256) (number_of w / 256)) ≡ w
unfolding value_from
written_back U U = refl
written_back U (Known n) = ap Known (word_back n)
written_back (Known m) U = refl
written_back (Known m) (Known n) = ap Known (word_back n)

abbrev event_of : Columns → Event
event_of f = event_from f.kind f.order f.location f.read f.written

event_back : (e : Event) → event_of (columns_of e) ≡ e
unfolding event_from
event_back Init = refl
event_back (Load o x v) = refl
event_back (Store o x w) = refl
event_back (Update o x v w) = refl

rested_back : (t : ℕ) (p s : Option ℕ) (e : Event) → (¬ T (is_read e) → s ≡ None) → rested (bytes_by t p s (columns_of e)) ≡ true
rested_back t p s Init h = rw (h (λ x. x))
rested_back t p s (Load o x U) h = refl
rested_back t p s (Load o x (Known n)) h = refl
rested_back t p s (Store o x U) h = rw (h (λ x. x))
rested_back t p s (Store o x (Known n)) h = rw (h (λ x. x))
rested_back t p s (Update o x U U) h = refl
rested_back t p s (Update o x U (Known n)) h = refl
rested_back t p s (Update o x (Known m) U) h = refl
rested_back t p s (Update o x (Known m) (Known n)) h = refl

fits_apart : {l : Option ℕ} → ((n : ℕ) → l ≡ Some n → n < 255) → ¬ (l ≡ Some 255)
fits_apart h e =
    let small = h 255 e in
    omega arith

pub decode_encode : (r : Record) → Fits r → decode (encode r) ≡ Ok r
unfolding decided_by decode encode
decode_encode r h =
    let f = columns_of r.event in
    simp (
      le-leb f.kind 3 (omega (arith, kind_below f.kind (code_of f.order) h.row)),
      is_true (says_T (in_row f.kind (code_of f.order))) h.row,
      rested_back r.thread r.parent r.source r.event h.only_reads,
      le-leb _ _ h.thread,
      le-leb _ _ h.location,
      link_back_lem r.parent (fits_apart h.parent),
      link_back_lem r.source (fits_apart h.source),
      order_back f.order,
      read_back f.read f.written,
      written_back f.read f.written,
      event_back r.event,
    )

-- What the sixteen bytes of a record say, and the sixteen bytes that a record is written as.
use Rattle.refusals.specs.declared.Fault.{Fault}
use Rattle.std.specs.Prelude.{Bool, true, false, not, ◌&&◌, ◌||◌, List, [], ◌∷◌, ◌++◌, ℕ, zero, suc, ◌+◌, ◌*◌, ◌/◌, ◌%◌, eqb, leb, get_or, take, drop, Option, None, Some, Err, Ok, Result}
use Rattle.events.specs.declared.Order.{Order}
use Rattle.events.specs.declared.Order.TheVariants.{Na, Acq, Rel, Ar, Sc}
use Rattle.events.specs.declared.Value.{Value}
use Rattle.events.specs.declared.Value.TheVariants.{U, Known}
use Rattle.events.specs.declared.Event.{Event}
use Rattle.events.specs.declared.Event.TheVariants.{Init, Load, Store, Update}
use Rattle.events.specs.declared.Record.{Record}
use Rattle.events.specs.Words.{code_of, order_of, location_of, read_of, written_of}
use Rattle.refusals.specs.declared.Fault.TheVariants as fault
use Rattle.record.specs.declared.written.Columns.{Columns}

abbrev pub pick : {A : Type 0} → Bool → A → A → A
pick true a b = a
pick false a b = b

-- ---- which byte holds what

-- "The sixteen bytes of a record"
abbrev pub record_size : ℕ
record_size = 16

abbrev pub byte_at : List ℕ → ℕ → ℕ
byte_at b i = get_or b i 0

-- "kind: 0 Init, 1 load, 2 store, 3 update"
abbrev pub kind_byte : List ℕ → ℕ
kind_byte b = byte_at b 2

abbrev pub order_byte : List ℕ → ℕ
order_byte b = byte_at b 3

abbrev pub thread_byte : List ℕ → ℕ
thread_byte b = byte_at b 4

abbrev pub parent_byte : List ℕ → ℕ
parent_byte b = byte_at b 5

abbrev pub source_byte : List ℕ → ℕ
source_byte b = byte_at b 6

abbrev pub location_byte : List ℕ → ℕ
location_byte b = byte_at b 7

-- "1 if the value read is u, plus 2 if the value written is u"
abbrev pub flags_byte : List ℕ → ℕ
flags_byte b = byte_at b 8

abbrev pub reads_kind : ℕ → Bool
reads_kind k = eqb k 1 || eqb k 3

abbrev pub writes_kind : ℕ → Bool
writes_kind k = eqb k 2 || eqb k 3

abbrev pub read_u : ℕ → Bool
read_u f = eqb (f % 2) 1

abbrev pub written_u : ℕ → Bool
written_u f = leb 2 f

-- ---- the tests 2 to 5

-- "mark 45 56 (hex)"
abbrev pub marked : List ℕ → Bool
marked b = eqb (byte_at b 0) 0x45 && eqb (byte_at b 1) 0x56

-- "The kind and order table, one row for each kind: Init NA; load NA, ACQ, SC; store NA, REL, SC; update AR, SC":
-- one flag for each of NA, ACQ, REL, AR, SC
abbrev pub rows : List (List ℕ)
rows =
    (1 ∷ 0 ∷ 0 ∷ 0 ∷ 0 ∷ [])
    ∷ (1 ∷ 1 ∷ 0 ∷ 0 ∷ 1 ∷ [])
    ∷ (1 ∷ 0 ∷ 1 ∷ 0 ∷ 1 ∷ [])
    ∷ (0 ∷ 0 ∷ 0 ∷ 1 ∷ 1 ∷ [])
    ∷ []

unfoldable pub in_row : ℕ → ℕ → Bool
in_row k o = eqb (get_or (get_or rows k []) o 0) 1

-- "byte 8 above 3", and "no bit for" a value that the kind lacks
abbrev pub flags_rest : ℕ → ℕ → Bool
flags_rest k f = leb f 3 && ((reads_kind k || not (read_u f)) && (writes_kind k || not (written_u f)))

-- "A field that a kind lacks holds 0 (source: 255; byte 8: no bit for it), and so does the number of a value that is u":
-- so does x, as byte i of a record of kind k with flags f
abbrev pub rests_as : ℕ → ℕ → ℕ → ℕ → Bool
rests_as k f i x =
    pick (eqb i 6) (reads_kind k || eqb x 255)
    (pick (eqb i 7) (not (eqb k 0) || eqb x 0)
    (pick (eqb i 8) (flags_rest k f)
    (pick (eqb i 10 || eqb i 11) ((reads_kind k && not (read_u f)) || eqb x 0)
    (pick (eqb i 12 || eqb i 13) ((writes_kind k && not (written_u f)) || eqb x 0)
    (eqb x 0)))))

abbrev pub rests_at : List ℕ → ℕ → Bool
rests_at b i = rests_as (kind_byte b) (flags_byte b) i (byte_at b i)

-- n numbers from i on pass
abbrev pub all_from : (ℕ → Bool) → ℕ → ℕ → Bool
all_from f i zero = true
all_from f i (suc n) = f i && all_from f (suc i) n

-- and the least of them that fails; the number after them where none does
abbrev pub least_failing : (ℕ → Bool) → ℕ → ℕ → ℕ
least_failing f i zero = i
least_failing f i (suc n) = pick (f i) (least_failing f (suc i) n) i

-- the bytes 6 to 15
abbrev pub rested : List ℕ → Bool
rested b = all_from (rests_at b) 6 10

-- "the least byte at fault", or the size of a record
unfoldable pub least_restless : List ℕ → ℕ
least_restless b = least_failing (rests_at b) 6 10

-- ---- the record that the bytes hold

unfoldable pub order_from : ℕ → Order
order_from o = pick (eqb o 1) Acq (pick (eqb o 2) Rel (pick (eqb o 3) Ar (pick (eqb o 4) Sc Na)))

-- "255 for none"
unfoldable pub link_from : ℕ → Option ℕ
link_from b = pick (eqb b 255) None (Some b)

-- "low byte first"
abbrev pub word : ℕ → ℕ → ℕ
word low high = low + 256 * high

unfoldable pub value_from : Bool → ℕ → Value
value_from u n = pick u U (Known n)

unfoldable pub event_from : ℕ → Order → ℕ → Value → Value → Event
event_from k o x v w = pick (eqb k 1) (Load o x v) (pick (eqb k 2) (Store o x w) (pick (eqb k 3) (Update o x v w) Init))

abbrev pub read_from : List ℕ → Value
read_from b = value_from (read_u (flags_byte b)) (word (byte_at b 10) (byte_at b 11))

abbrev pub written_from : List ℕ → Value
written_from b = value_from (written_u (flags_byte b)) (word (byte_at b 12) (byte_at b 13))

abbrev pub record_from : List ℕ → Record
record_from b = record {
  thread = thread_byte b;
  parent = link_from (parent_byte b);
  source = link_from (source_byte b);
  event = event_from (kind_byte b) (order_from (order_byte b)) (location_byte b) (read_from b) (written_from b);
}

-- "numbers 2 to 8 in order within one; the first fault is the answer": 2 to 5. "byte 2 if the kind is above 3, else 3",
-- "byte 4 if the thread is at fault, else 7": of two faults with one number the first is the answer too
unfoldable pub decided_by : Bool → Bool → Bool → Bool → Bool → Bool → ℕ → Record → Result Record Fault
decided_by mark kind row rest thread location i r =
    pick mark
    (pick kind
    (pick row
    (pick rest (pick thread (pick location (Ok r) (Err fault.Location)) (Err fault.Thread)) (Err (fault.Rest i)))
    (Err fault.Order))
    (Err fault.Kind))
    (Err fault.Mark)

unfoldable pub decode : List ℕ → Result Record Fault
decode b =
    decided_by (marked b) (leb (kind_byte b) 3) (in_row (kind_byte b) (order_byte b)) (rested b) (leb (thread_byte b) 15) (leb (location_byte b) 31)
    (least_restless b) (record_from b)

-- the record r unless a test was failed
abbrev pub unless_faulty : Result (Unit {0}) Fault → Record → Result Record Fault
unless_faulty (Ok tt) r = Ok r
unless_faulty (Err f) r = Err f

-- ---- the bytes of a record

abbrev pub kind_of : Event → ℕ
kind_of Init = 0
kind_of (Load o x v) = 1
kind_of (Store o x w) = 2
kind_of (Update o x v w) = 3

-- what a field that a kind lacks holds
abbrev pub number_or_0 : Option ℕ → ℕ
number_or_0 None = 0
number_or_0 (Some n) = n

-- a known 0 has the bytes that a value rests with
abbrev pub value_or_0 : Option Value → Value
value_or_0 None = Known 0
value_or_0 (Some v) = v

abbrev pub columns_of : Event → Columns
columns_of e = record {
  kind = kind_of e;
  order = order_of e;
  location = number_or_0 (location_of e);
  read = value_or_0 (read_of e);
  written = value_or_0 (written_of e);
}

abbrev pub link_byte : Option ℕ → ℕ
link_byte None = 255
link_byte (Some n) = n

abbrev pub number_of : Value → ℕ
number_of U = 0
number_of (Known n) = n

abbrev pub flags_of : Value → Value → ℕ
flags_of U U = 3
flags_of U (Known n) = 1
flags_of (Known m) U = 2
flags_of (Known m) (Known n) = 0

abbrev pub bytes_by : ℕ → Option ℕ → Option ℕ → Columns → List ℕ
bytes_by thread parent source f =
    0x45
    ∷ 0x56
    ∷ f.kind
    ∷ code_of f.order
    ∷ thread
    ∷ link_byte parent
    ∷ link_byte source
    ∷ f.location
    ∷ flags_of f.read f.written
    ∷ 0
    ∷ (number_of f.read % 256)
    ∷ (number_of f.read / 256)
    ∷ (number_of f.written % 256)
    ∷ (number_of f.written / 256)
    ∷ 0
    ∷ 0
    ∷ []

unfoldable pub encode : Record → List ℕ
encode r = bytes_by r.thread r.parent r.source (columns_of r.event)

-- ---- records in a table

-- the sixteen bytes of record n
abbrev pub part : List ℕ → ℕ → List ℕ
part t n = take record_size (drop (record_size * n) t)

-- the table with these bytes as its record n, and every other byte as it was
abbrev pub overwritten : List ℕ → ℕ → List ℕ → List ℕ
overwritten t n bs = take (record_size * n) t ++ (bs ++ drop record_size (drop (record_size * n) t))

-- Words of document 01 on one order, one value, one event: each a table by cases.
use Rattle.std.specs.Prelude.{Bool, true, false, ℕ, eqb, Option, None, Some}
use Rattle.events.specs.declared.Order.{Order}
use Rattle.events.specs.declared.Order.TheVariants.{Na, Acq, Rel, Ar, Sc}
use Rattle.events.specs.declared.Value.{Value}
use Rattle.events.specs.declared.Event.{Event}
use Rattle.events.specs.declared.Event.TheVariants.{Init, Load, Store, Update}

-- "whether it acquires (ACQ, AR, SC)"
abbrev pub acquires : Order → Bool
acquires Na = false
acquires Acq = true
acquires Rel = false
acquires Ar = true
acquires Sc = true

-- "and whether it releases (REL, AR, SC)"
abbrev pub releases : Order → Bool
releases Na = false
releases Acq = false
releases Rel = true
releases Ar = true
releases Sc = true

abbrev pub is_na : Order → Bool
is_na Na = true
is_na Acq = false
is_na Rel = false
is_na Ar = false
is_na Sc = false

abbrev pub is_sc : Order → Bool
is_sc Na = false
is_sc Acq = false
is_sc Rel = false
is_sc Ar = false
is_sc Sc = true

-- "order: 0 NA, 1 ACQ, 2 REL, 3 AR, 4 SC"
abbrev pub code_of : Order → ℕ
code_of Na = 0
code_of Acq = 1
code_of Rel = 2
code_of Ar = 3
code_of Sc = 4

abbrev pub is_init : Event → Bool
is_init Init = true
is_init (Load o x v) = false
is_init (Store o x w) = false
is_init (Update o x v w) = false

-- "Loads and updates are reads"
abbrev pub is_read : Event → Bool
is_read Init = false
is_read (Load o x v) = true
is_read (Store o x w) = false
is_read (Update o x v w) = true

-- "stores and updates are writes"
abbrev pub is_write : Event → Bool
is_write Init = false
is_write (Load o x v) = false
is_write (Store o x w) = true
is_write (Update o x v w) = true

-- "kind: 0 Init, 1 load, 2 store, 3 update"
abbrev pub is_update : Event → Bool
is_update Init = false
is_update (Load o x v) = false
is_update (Store o x w) = false
is_update (Update o x v w) = true

-- an Init's order is NA
abbrev pub order_of : Event → Order
order_of Init = Na
order_of (Load o x v) = o
order_of (Store o x w) = o
order_of (Update o x v w) = o

-- "Init has no location and no values"
abbrev pub location_of : Event → Option ℕ
location_of Init = None
location_of (Load o x v) = Some x
location_of (Store o x w) = Some x
location_of (Update o x v w) = Some x

abbrev pub read_of : Event → Option Value
read_of Init = None
read_of (Load o x v) = Some v
read_of (Store o x w) = None
read_of (Update o x v w) = Some v

abbrev pub written_of : Event → Option Value
written_of Init = None
written_of (Load o x v) = None
written_of (Store o x w) = Some w
written_of (Update o x v w) = Some w

-- both have a location, and it is one and the same
abbrev pub same_location : Option ℕ → Option ℕ → Bool
same_location None None = false
same_location None (Some y) = false
same_location (Some x) None = false
same_location (Some x) (Some y) = eqb x y

abbrev pub at_one_location : Event → Event → Bool
at_one_location e f = same_location (location_of e) (location_of f)

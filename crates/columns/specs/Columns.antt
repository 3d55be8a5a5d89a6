-- The columns of a table: what its relations ask of each record, as numbers.
use Rattle.std.specs.Prelude.{◌≡◌, Bool, true, false, ◌&&◌, List, ℕ, ◌<◌, ◌≤◌, length, get_or, Option, None, Some}
use Rattle.events.specs.declared.Event.{Event}
use Rattle.events.specs.declared.Event.TheVariants.{Init, Load, Store, Update}
use Rattle.events.specs.Words.{order_of, code_of, acquires, releases}
use Rattle.limits.specs.Limit.{limit}
use Rattle.model.specs.Table.{Table}
use Rattle.model.specs.WellFormed.{WellFormed}

-- no record has this number
abbrev pub no_number : ℕ
no_number = 255

abbrev pub number_if : Bool → ℕ → ℕ
number_if true v = v
number_if false v = no_number

abbrev pub link_number : Option ℕ → ℕ
link_number None = no_number
link_number (Some s) = s

-- 32 stands for no place: locations are 0 to 31, and "Init has no location"
abbrev pub no_place : ℕ
no_place = 32

abbrev pub place_of : Event → ℕ
place_of Init = no_place
place_of (Load o x v) = x
place_of (Store o x w) = x
place_of (Update o x v w) = x

-- "kind: 0 Init, 1 load, 2 store, 3 update"
abbrev pub kind_of : Event → ℕ
kind_of Init = 0
kind_of (Load o x v) = 1
kind_of (Store o x w) = 2
kind_of (Update o x v w) = 3

abbrev pub unless_init : Event → ℕ → ℕ
unless_init Init n = no_number
unless_init (Load o x v) n = n
unless_init (Store o x w) n = n
unless_init (Update o x v w) n = n

module _ (t : Table) where
  -- the parent's number
  abbrev pub parent_number : ℕ → ℕ
  parent_number b = link_number (t.at b).parent

  -- of a record that can be an arm of a branch: an Init begins a thread of its own
  abbrev pub arm_number : ℕ → ℕ
  arm_number b = unless_init (t.at b).event (parent_number b)

  -- the source's number
  abbrev pub source_number : ℕ → ℕ
  source_number b = link_number (t.at b).source

  -- "from a releasing source to an acquiring read of it"
  abbrev pub sync_by : ℕ → Option ℕ → ℕ
  sync_by b None = no_number
  sync_by b (Some s) = number_if (acquires (order_of (t.at b).event) && releases (order_of (t.at s).event)) s

  abbrev pub sync_number : ℕ → ℕ
  sync_number b = sync_by b (t.at b).source

  abbrev pub place_number : ℕ → ℕ
  place_number b = place_of (t.at b).event

  abbrev pub kind_number : ℕ → ℕ
  kind_number b = kind_of (t.at b).event

  abbrev pub order_number : ℕ → ℕ
  order_number b = code_of (order_of (t.at b).event)

-- the column says f of each number below n
pub record Column (n : ℕ) (f : ℕ → ℕ) (column : List ℕ) : Type 0 where
  pub long : n ≤ length column
  pub says : (b : ℕ) → b < n → get_or column b 0 ≡ f b

-- a well-formed table of n records, within the limit, whose locations are 0 to 31
pub record Known (t : Table) (n : ℕ) : Type 0 where
  pub formed : WellFormed t
  pub all : n ≡ t.count
  pub few : n ≤ limit
  pub located : (b : ℕ) → b < n → place_of (t.at b).event ≤ no_place
  pub somewhere : (b : ℕ) → b < n → ¬ ((t.at b).event ≡ Init) → place_of (t.at b).event < no_place

-- all columns of such a table
pub record Columns (t : Table) (n : ℕ) (parent arm source sync place kind order : List ℕ) : Type 0 where
  pub known : Known t n
  pub parents : Column n (parent_number t) parent
  pub arms : Column n (arm_number t) arm
  pub sources : Column n (source_number t) source
  pub syncs : Column n (sync_number t) sync
  pub places : Column n (place_number t) place
  pub kinds : Column n (kind_number t) kind
  pub orders : Column n (order_number t) order

-- and past the first n entries they are 0
pub record Rest (n : ℕ) (parent arm source sync place kind order : List ℕ) : Type 0 where
  pub of_parent : (k : ℕ) → n ≤ k → get_or parent k 0 ≡ 0
  pub of_arm : (k : ℕ) → n ≤ k → get_or arm k 0 ≡ 0
  pub of_source : (k : ℕ) → n ≤ k → get_or source k 0 ≡ 0
  pub of_sync : (k : ℕ) → n ≤ k → get_or sync k 0 ≡ 0
  pub of_place : (k : ℕ) → n ≤ k → get_or place k 0 ≡ 0
  pub of_kind : (k : ℕ) → n ≤ k → get_or kind k 0 ≡ 0
  pub of_order : (k : ℕ) → n ≤ k → get_or order k 0 ≡ 0

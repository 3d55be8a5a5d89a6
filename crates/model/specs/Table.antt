-- A table of events, and words on the record of a number.
use Rattle.std.specs.Prelude.{◌≡◌, List, ℕ, ◌<◌, ◌≤◌, T, length, get_or, None, Some}
use Rattle.events.specs.declared.Event.TheVariants.{Init}
use Rattle.events.specs.declared.Record.{Record}
use Rattle.events.specs.Words.{is_init, is_read, is_write, is_update, is_na, is_sc, order_of, acquires, releases, at_one_location}

-- "in the order in which the events were added": how many records there are, and the record of each number
pub record Table : Type 0 where
  pub count : ℕ
  pub at : ℕ → Record

-- what stands at a number that no record has: an Init with no links, which is in no relation
abbrev pub inert : Record
inert = record { thread = 0; parent = None; source = None; event = Init }

-- nothing stands past the last record
pub record Ends (t : Table) : Type 0 where
  pub past : (n : ℕ) → t.count ≤ n → t.at n ≡ inert

-- the table that a list of records is
abbrev pub listed : List Record → Table
listed l = record { count = length l; at = λ n. get_or l n inert }

module _ (t : Table) where
  -- n is the number of a record
  abbrev pub Inside : ℕ → Type 0
  Inside n = n < t.count

  abbrev pub thread : ℕ → ℕ
  thread n = (t.at n).thread

  abbrev pub IsInit : ℕ → Type 0
  IsInit n = T (is_init (t.at n).event)

  abbrev pub IsUpdate : ℕ → Type 0
  IsUpdate n = T (is_update (t.at n).event)

  abbrev pub Read : ℕ → Type 0
  Read n = T (is_read (t.at n).event)

  -- p is the parent of n
  abbrev pub Parent : ℕ → ℕ → Type 0
  Parent p n = (t.at n).parent ≡ Some p

  -- s is the source of the read n
  pub record Source (s n : ℕ) : Type 0 where
    pub reads : Read n
    pub is : (t.at n).source ≡ Some s

  abbrev pub NoSource : ℕ → Type 0
  NoSource n = (t.at n).source ≡ None

  abbrev pub Write : ℕ → Type 0
  Write n = T (is_write (t.at n).event)

  abbrev pub NA : ℕ → Type 0
  NA n = T (is_na (order_of (t.at n).event))

  abbrev pub SC : ℕ → Type 0
  SC n = T (is_sc (order_of (t.at n).event))

  abbrev pub Acquiring : ℕ → Type 0
  Acquiring n = T (acquires (order_of (t.at n).event))

  abbrev pub Releasing : ℕ → Type 0
  Releasing n = T (releases (order_of (t.at n).event))

  -- two records of one location; Init has none
  abbrev pub OneLocation : ℕ → ℕ → Type 0
  OneLocation a b = T (at_one_location (t.at a).event (t.at b).event)

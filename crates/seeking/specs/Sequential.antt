-- What the steps among SC records are made of, and room for them.
use Rattle.std.specs.Prelude.{◌≡◌, List, ℕ, ◌+◌, ◌<◌, ◌≤◌, length, get_or}
use Rattle.model.specs.Table.{Table, Source}
use Rattle.model.specs.Relations.{Hb, Wb, Wb0}
use Rattle.rows.specs.Rows.{On, Room, Holds, Outside, Made}
use Rattle.closure.specs.Classes.{InClasses}
use Rattle.cycle.specs.Rounds.{OutRoom}
use Rattle.combined.specs.Columns.{Placed, WritesAt}
use Rattle.columns.specs.Columns.{parent_number, sync_number, place_number, kind_number, order_number, Column, Known}
use Rattle.columns.specs.Sequential.{Overtaken}

-- wb0, whose steps stay at one place, the readers of each write, and room for wb and for what is overtaken
pub record ClosingRoom (w n : ℕ) (place order : List ℕ) (writes readers wb0 wb over : List (List ℕ)) : Type 0 where
  pub orders : n ≤ length order
  pub for_readers : Room w n n readers
  pub for_wb : Room w n n wb
  pub for_over : Room w n n over
  pub classes : InClasses w n 33 place writes wb0

-- wb is made, and over has what each SC record (the order 4) overtakes
pub record Closed (t : Table) (w n : ℕ) (order : List ℕ) (wb over wb' over' : List (List ℕ)) : Type 0 where
  pub by_wb : Made w n (Wb t) wb wb'
  pub rest : Outside 0 n over over'
  pub all : (a b : ℕ) → b < n → get_or order b 0 ≡ 4 → Overtaken t a b → On w over' a b
  pub only : (a b : ℕ) → b < n → get_or order b 0 ≡ 4 → On w over' a b → Overtaken t a b

pub record TurningRoom (w n : ℕ) (parent sync place : List ℕ) (at po other around detour : List (List ℕ)) : Type 0 where
  pub parents : n ≤ length parent
  pub syncs : n ≤ length sync
  pub placed : Placed n place
  pub for_at : Room w n 33 at
  pub for_po : Room w n n po
  pub for_other : Room w n n other
  pub for_around : Room w n n around
  pub for_detour : Room w n n detour

-- all that is lent; around is room for layers too
pub record ScRoom (w n : ℕ) (parent sync place order : List ℕ) (hb writes readers wb0 wb over at po other around detour : List (List ℕ)) (out : List ℕ) : Type 0 where
  pub turning : TurningRoom w n parent sync place at po other around detour
  pub orders : n ≤ length order
  pub for_hb : Room w n n hb
  pub for_writes : Room w n 33 writes
  pub for_readers : Room w n n readers
  pub for_wb0 : Room w n n wb0
  pub for_wb : Room w n n wb
  pub for_over : Room w n n over
  pub for_layers : Room w n (n + 1) around
  pub for_out : OutRoom n out

-- columns and rows of the table t
pub record Sequenced (t : Table) (w n : ℕ) (parent sync place order : List ℕ) (hb writes readers wb0 : List (List ℕ)) : Type 0 where
  pub known : Known t n
  pub parents : Column n (parent_number t) parent
  pub syncs : Column n (sync_number t) sync
  pub places : Column n (place_number t) place
  pub orders : Column n (order_number t) order
  pub by_hb : Holds w n (Hb t) hb
  pub kind : List ℕ
  pub kinds : Column n (kind_number t) kind
  pub by_writes : Holds w 33 (WritesAt n kind place) writes
  pub by_readers : Holds w n (λ a s. Source t s a) readers
  pub by_wb0 : Holds w n (Wb0 t) wb0

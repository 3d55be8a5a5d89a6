-- hb, conflict, the writes of each place and the races with earlier writes, in rows.
use Rattle.std.specs.Prelude.{List, ℕ, ◌≤◌, length}
use Rattle.model.specs.Table.{Table}
use Rattle.model.specs.Relations.{Hb, Conflict, EarlierRace}
use Rattle.rows.specs.Rows.{Room, Made}
use Rattle.combined.specs.Columns.{Placed, WritesAt}
use Rattle.columns.specs.Columns.{parent_number, arm_number, sync_number, place_number, kind_number, order_number, Column, Known}

-- what conflict is made of and in
pub record BranchRoom (w n : ℕ) (parent arm : List ℕ) (own below arms cf : List (List ℕ)) : Type 0 where
  pub parents : n ≤ length parent
  pub all_arms : n ≤ length arm
  pub for_own : Room w n n own
  pub for_below : Room w n n below
  pub for_arms : Room w n n arms
  pub for_cf : Room w n n cf

-- what the rest is made of and in
pub record LayRoom (w n : ℕ) (sync place kind order : List ℕ) (na hb at race : List (List ℕ)) : Type 0 where
  pub syncs : n ≤ length sync
  pub placed : Placed n place
  pub kinds : n ≤ length kind
  pub orders : n ≤ length order
  pub for_na : Room w n 1 na
  pub for_hb : Room w n n hb
  pub for_at : Room w n 33 at
  pub for_race : Room w n n race

-- columns of the table t
pub record Laying (t : Table) (n : ℕ) (parent arm sync place kind order : List ℕ) : Type 0 where
  pub known : Known t n
  pub parents : Column n (parent_number t) parent
  pub arms : Column n (arm_number t) arm
  pub syncs : Column n (sync_number t) sync
  pub places : Column n (place_number t) place
  pub kinds : Column n (kind_number t) kind
  pub orders : Column n (order_number t) order

-- its relations are made
pub record Laid (t : Table) (w n : ℕ) (place kind : List ℕ) (hb cf at race hb' cf' at' race' : List (List ℕ)) : Type 0 where
  pub by_hb : Made w n (Hb t) hb hb'
  pub by_cf : Made w n (Conflict t) cf cf'
  pub by_at : Made w 33 (WritesAt n kind place) at at'
  pub by_race : Made w n (EarlierRace t) race race'

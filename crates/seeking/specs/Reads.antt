-- What tells whether a read is justified.
use Rattle.std.specs.Prelude.{List, ℕ, ◌≤◌, length}
use Rattle.model.specs.Table.{Table}
use Rattle.model.specs.Relations.{Hb, EarlierRace}
use Rattle.rows.specs.Rows.{Room, Holds}
use Rattle.combined.specs.Columns.{Placed, WritesAt}
use Rattle.columns.specs.Columns.{source_number, place_number, kind_number, Column, Known}

-- columns and rows of n numbers
pub record ReadRoom (w n : ℕ) (source place : List ℕ) (at hb race : List (List ℕ)) : Type 0 where
  pub sources : n ≤ length source
  pub placed : Placed n place
  pub for_at : Room w n 33 at
  pub for_hb : Room w n n hb
  pub for_race : Room w n n race

-- they are those of the table t
pub record Reading (t : Table) (w n : ℕ) (kind source place : List ℕ) (at hb race : List (List ℕ)) : Type 0 where
  pub known : Known t n
  pub kinds : Column n (kind_number t) kind
  pub sources : Column n (source_number t) source
  pub places : Column n (place_number t) place
  pub by_at : Holds w 33 (WritesAt n kind place) at
  pub by_hb : Holds w n (Hb t) hb
  pub by_race : Holds w n (EarlierRace t) race

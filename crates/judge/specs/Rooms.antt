-- What the searches are lent, and what they stand on.
use Rattle.std.specs.Prelude.{List, ℕ, ◌+◌}
use Rattle.findings.specs.declared.Finding.TheVariants.{A1, A2, A3, A4}
use Rattle.findings.specs.Meant.{Finds, FindsIn}
use Rattle.model.specs.Table.{Table, Source}
use Rattle.model.specs.Relations.{Hb, Conflict, EarlierRace}
use Rattle.model.specs.Findings.{Shows}
use Rattle.rows.specs.Rows.{Room, Holds}
use Rattle.combined.specs.Columns.{WritesAt}
use Rattle.cycle.specs.Rounds.{OutRoom}
use Rattle.columns.specs.Columns.{parent_number, arm_number, source_number, order_number, Column, Known, Columns}
use Rattle.seeking.specs.Writes.{Writing}
use Rattle.judge.specs.declared.searching.InConflict.{InConflict}
use Rattle.judge.specs.declared.searching.Cycles.{Cycles}

-- room for the relations of n records; `shows` has a row more, for layers
pub record Rooms (w n : ℕ) (own hb cf below arms race readers shows owners wb0 writes at : List (List ℕ)) : Type 0 where
  pub for_own : Room w n n own
  pub for_hb : Room w n n hb
  pub for_cf : Room w n n cf
  pub for_below : Room w n n below
  pub for_arms : Room w n n arms
  pub for_race : Room w n n race
  pub for_readers : Room w n n readers
  pub for_shows : Room w n n shows
  pub for_layers : Room w n (n + 1) shows
  pub for_owners : Room w n n owners
  pub for_wb0 : Room w n n wb0
  pub for_writes : Room w n 33 writes
  pub for_at : Room w n 33 at

-- room for the two cycles
pub record Outs (n : ℕ) (first second : List ℕ) : Type 0 where
  pub for_first : OutRoom n first
  pub for_second : OutRoom n second

-- the columns of the table t, and what every search stands on
pub record Based (t : Table) (w n : ℕ) (parent arm source sync place kind order : List ℕ) (hb cf writes race : List (List ℕ)) : Type 0 where
  pub columns : Columns t n parent arm source sync place kind order
  pub by_hb : Holds w n (Hb t) hb
  pub by_cf : Holds w n (Conflict t) cf
  pub by_writes : Holds w 33 (WritesAt n kind place) writes
  pub by_race : Holds w n (EarlierRace t) race

-- what tells A2 and A3
pub record Conflicting (t : Table) (w n : ℕ) (parent arm source : List ℕ) (readers hb cf : List (List ℕ)) : Type 0 where
  pub known : Known t n
  pub parents : Column n (parent_number t) parent
  pub arms : Column n (arm_number t) arm
  pub sources : Column n (source_number t) source
  pub by_readers : Holds w n (λ a s. Source t s a) readers
  pub by_hb : Holds w n (Hb t) hb
  pub by_cf : Holds w n (Conflict t) cf

-- x is what was found of the two
pub record FoundInConflict (t : Table) (x : InConflict) : Type 0 where
  pub before : Finds (Shows t A2) x.«a2»
  pub sources : Finds (Shows t A3) x.«a3»

-- what tells A1 and A4
pub record Rounding (t : Table) (w n : ℕ) (parent sync kind source place order : List ℕ) (hb writes readers : List (List ℕ)) : Type 0 where
  pub writing : Writing t w n parent sync kind source place writes
  pub orders : Column n (order_number t) order
  pub by_hb : Holds w n (Hb t) hb
  pub by_readers : Holds w n (λ a s. Source t s a) readers

-- x is what was found of the two, with the cycles in the two buffers
pub record FoundCycles (t : Table) (before₁ after₁ before₂ after₂ : List ℕ) (x : Cycles) : Type 0 where
  pub of_writes : FindsIn (Shows t A1) before₁ after₁ x.«a1»
  pub of_steps : FindsIn (Shows t A4) before₂ after₂ x.«a4»

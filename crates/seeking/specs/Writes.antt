-- What tells wb0.
use Rattle.std.specs.Prelude.{List, ℕ}
use Rattle.model.specs.Table.{Table}
use Rattle.rows.specs.Rows.{Holds}
use Rattle.combined.specs.Columns.{WritesAt}
use Rattle.columns.specs.Columns.{parent_number, source_number, sync_number, place_number, kind_number, Column, Known}

-- columns and rows of the table t
pub record Writing (t : Table) (w n : ℕ) (parent sync kind source place : List ℕ) (at : List (List ℕ)) : Type 0 where
  pub known : Known t n
  pub parents : Column n (parent_number t) parent
  pub syncs : Column n (sync_number t) sync
  pub kinds : Column n (kind_number t) kind
  pub sources : Column n (source_number t) source
  pub places : Column n (place_number t) place
  pub by_at : Holds w 33 (WritesAt n kind place) at

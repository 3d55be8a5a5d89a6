-- What the steps among SC records are made of.
use Rattle.std.specs.Prelude.{◌≡◌, List, ℕ, ◌<◌, get_or}
use Rattle.model.specs.Table.{Table, Source}
use Rattle.model.specs.Relations.{Wb, PoDiff, PoHbPo}
use Rattle.columns.specs.Columns.{no_place}

-- a stands at the place l, one of the 32
pub record StandsAt (n : ℕ) (place : List ℕ) (a l : ℕ) : Type 0 where
  pub low : a < n
  pub at : get_or place a 0 ≡ l
  pub some : l < no_place

-- "po≠; or po≠, then hb, then po≠"
pub data Detour (t : Table) (a b : ℕ) : Type 0 where
  direct : PoDiff t a b → Detour t a b
  by_way_of_hb : PoHbPo t a b → Detour t a b

-- a read whose source is wb before b
pub record Overtaken (t : Table) (a b : ℕ) : Type 0 where
  pub s : ℕ
  pub source : Source t s a
  pub before : Wb t s b

-- The places of a table's records.
use mathlib.Core.List.{List}
use Prim.Native.Nat.{ℕ, ◌<◌}
use native.Mathlib.Omega.{arith}
use lib.ListN.{get_or}
use Rattle.model.specs.Table.{Table}
use Rattle.columns.specs.Columns.{place_number, Column, Known}

-- 33 rows have one for each
pub place_low : {t : Table} {n : ℕ} {place : List ℕ} → Known t n → Column n (place_number t) place → (b : ℕ) → b < n → get_or place b 0 < 33
place_low k p b l = let h = k.located b l in omega (arith, h, p.says b l)

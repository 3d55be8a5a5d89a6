-- The records in use that a record is to stand after: what an append knows of them.
use Rattle.std.specs.Prelude.{List, ℕ, ◌*◌, ◌<◌, ◌≤◌, length, take}
use Rattle.record.specs.Form.{record_size}
use Rattle.table.specs.Test.{Passes}

-- b holds n records, and as a table of their own they pass
pub record PassingUse (b : List ℕ) (n : ℕ) : Type 0 where
  pub held : record_size * n ≤ length b
  pub passed : (m : ℕ) → m < n → Passes (take (record_size * n) b) m

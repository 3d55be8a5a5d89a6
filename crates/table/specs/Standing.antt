-- What the code's own functions hand each other: records that stand in a table.
use Rattle.std.specs.Prelude.{List, ℕ, ◌+◌, ◌*◌, ◌<◌, ◌≤◌, length}
use Rattle.record.specs.Form.{record_size}
use Rattle.table.specs.Test.{Decodes}

-- record n stands in b
pub record Stands (b : List ℕ) (n : ℕ) : Type 0 where
  pub held : record_size * n + record_size ≤ length b
  pub decodes : Decodes b n

-- and so do the first n
pub record AllStand (b : List ℕ) (n : ℕ) : Type 0 where
  pub held : record_size * n ≤ length b
  pub decodes : (m : ℕ) → m < n → Decodes b m

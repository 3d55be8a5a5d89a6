-- The part of a table that is a record.
use Rattle.std.specs.Prelude.{◌≡◌, List, ℕ, length}
use Rattle.record.specs.Form.{record_size, part}

pub record Part (b : List ℕ) (n : ℕ) (p : List ℕ) : Type 0 where
  pub is : p ≡ part b n
  pub long : length p ≡ record_size

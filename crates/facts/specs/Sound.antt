-- What the reader promises of a table that it lets pass, and the records of such a table.
use Rattle.std.specs.Prelude.{◌≡◌, List, ℕ, ◌*◌, ◌<◌, ◌≤◌, length, Ok}
use Rattle.model.specs.Table.{Inside}
use Rattle.model.specs.WellFormed.{WellFormed}
use Rattle.record.specs.Form.{record_size, decode, part}
use Rattle.table.specs.Events.{events_of}
use Rattle.limits.specs.Limit.{limit}

-- the bytes hold a well-formed table within the limit, each record in its sixteen bytes
pub record SoundTable (b : List ℕ) : Type 0 where
  pub formed : WellFormed (events_of b)
  pub few : (events_of b).count ≤ limit
  pub size : record_size * (events_of b).count ≡ length b
  pub decodes : (n : ℕ) → n < (events_of b).count → decode (part b n) ≡ Ok ((events_of b).at n)

-- a is the number of one of its records
pub record One (b : List ℕ) (a : ℕ) : Type 0 where
  pub sound : SoundTable b
  pub inside : Inside (events_of b) a

-- a and c are the numbers of two of them
pub record Two (b : List ℕ) (a c : ℕ) : Type 0 where
  pub sound : SoundTable b
  pub first : Inside (events_of b) a
  pub second : Inside (events_of b) c

-- it has n records
pub record Counted (b : List ℕ) (n : ℕ) : Type 0 where
  pub sound : SoundTable b
  pub all : n ≡ (events_of b).count

-- it has n records, and a and c are two of them: a column and a row of its matrices
pub record Placed (b : List ℕ) (n a c : ℕ) : Type 0 where
  pub table : Counted b n
  pub col : a < n
  pub row : c < n

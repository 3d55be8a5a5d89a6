-- What the functions of a cut hand each other: the columns and rows that tell what is lacking, the column of new numbers, what is written.
use Rattle.std.specs.Prelude.{◌≡◌, Bool, List, ℕ, ◌+◌, ◌*◌, ◌<◌, ◌≤◌, length, get_or}
use Rattle.limits.specs.Limit.{limit}
use Rattle.selections.specs.Selection.{named}
use Rattle.record.specs.Form.{record_size, parent_byte, source_byte, part}
use Rattle.model.specs.Table.{Table}
use Rattle.model.specs.Cut.{new_number}
use Rattle.facts.specs.Sound.{Counted}
use Rattle.columns.specs.Columns.{parent_number, Column}
use Rattle.seeking.specs.Reads.{ReadRoom, Reading}

-- ---- what is lacking

-- columns and rows of n records, and a selection that has a bit for each
pub record JudgingRoom (w n : ℕ) (parent kind source place : List ℕ) (at hb race : List (List ℕ)) (s : List ℕ) : Type 0 where
  pub parents : n ≤ length parent
  pub kinds : n ≤ length kind
  pub reads : ReadRoom w n source place at hb race
  pub bits : n ≤ 8 * length s

-- they are those of the table t
pub record Judging (t : Table) (w n : ℕ) (parent kind source place : List ℕ) (at hb race : List (List ℕ)) : Type 0 where
  pub parents : Column n (parent_number t) parent
  pub reading : Reading t w n kind source place at hb race

-- ---- new numbers

-- what the column of numbers says of record n
abbrev pub number_in : List ℕ → ℕ → ℕ
number_in numbers n = get_or numbers n 0

pub record NumberRoom (count : ℕ) (s numbers : List ℕ) : Type 0 where
  pub few : count ≤ limit
  pub bits : count ≤ 8 * length s
  pub room : count ≤ length numbers

-- the column holds the new numbers of the first n records, and r is the next new number
pub record Numbered (k : ℕ → Bool) (n : ℕ) (numbers : List ℕ) (r : ℕ) : Type 0 where
  pub each : (m : ℕ) → m < n → number_in numbers m ≡ new_number k m
  pub next : r ≡ new_number k n

-- ---- what is written

-- a link's byte leads nowhere or to a record that the column has
pub record LinkIn (numbers : List ℕ) (link : ℕ) : Type 0 where
  pub low : ¬ (link ≡ 255) → link < length numbers

-- the sixteen bytes of a record with such links
pub record PartLinks (p numbers : List ℕ) : Type 0 where
  pub long : length p ≡ record_size
  pub parent : LinkIn numbers (parent_byte p)
  pub source : LinkIn numbers (source_byte p)

-- record n is there, and so are its number and the place of that number
pub record Placing (b : List ℕ) (n : ℕ) (numbers out : List ℕ) : Type 0 where
  pub held : record_size * n + record_size ≤ length b
  pub numbered : n < length numbers
  pub links : PartLinks (part b n) numbers
  pub room : record_size * number_in numbers n + record_size ≤ length out

-- the kept records of a sound table have their numbers, and there is room for them
pub record Writing (b s numbers : List ℕ) (count : ℕ) (out : List ℕ) : Type 0 where
  pub table : Counted b count
  pub bits : count ≤ 8 * length s
  pub numbered : (m : ℕ) → m < count → number_in numbers m ≡ new_number (named s) m
  pub column : count ≤ length numbers
  pub room : record_size * new_number (named s) count ≤ length out

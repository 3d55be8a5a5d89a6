-- The lists that are bytes, and the records that are read back as they were written.
use Rattle.std.specs.Prelude.{◌≡◌, List, ℕ, ◌<◌, ◌≤◌, T, None, Some}
use Rattle.events.specs.declared.Record.{Record}
use Rattle.events.specs.Words.{is_read, code_of}
use Rattle.record.specs.Form.{byte_at, in_row, columns_of, number_of}

pub record Bytes (b : List ℕ) : Type 0 where
  pub below : (i : ℕ) → byte_at b i < 256

-- Each field has room in its byte and passes the tests 3 to 5. A link to 255 would be written as the byte for none, and read back as none.
pub record Fits (r : Record) : Type 0 where
  pub row : T (in_row (columns_of r.event).kind (code_of (columns_of r.event).order))
  pub thread : r.thread ≤ 15
  pub location : (columns_of r.event).location ≤ 31
  pub parent : (n : ℕ) → r.parent ≡ Some n → n < 255
  pub source : (n : ℕ) → r.source ≡ Some n → n < 255
  pub only_reads : ¬ T (is_read r.event) → r.source ≡ None
  pub read : number_of (columns_of r.event).read < 65536
  pub written : number_of (columns_of r.event).written < 65536

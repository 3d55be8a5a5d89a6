-- The events that the bytes of a table hold, and the bytes that a table of events is written as.
use Rattle.refusals.specs.declared.Fault.{Fault}
use Rattle.std.specs.Prelude.{List, [], ◌++◌, ℕ, zero, suc, ◌/◌, length, Err, Ok, Result}
use Rattle.events.specs.declared.Record.{Record}
use Rattle.record.specs.Form.{record_size, decode, encode, part}
use Rattle.model.specs.Table.{Table, inert}

-- how many records so many bytes are
abbrev pub count_of : List ℕ → ℕ
count_of b = length b / record_size

abbrev pub record_of : Result Record Fault → Record
record_of (Ok r) = r
record_of (Err f) = inert

unfoldable pub events_of : List ℕ → Table
events_of b = record { count = count_of b; at = λ n. record_of (decode (part b n)) }

-- the first n records one after another
unfoldable pub written : (ℕ → Record) → ℕ → List ℕ
written at zero = []
written at (suc n) = written at n ++ encode (at n)

abbrev pub bytes_of : Table → List ℕ
bytes_of t = written t.at t.count

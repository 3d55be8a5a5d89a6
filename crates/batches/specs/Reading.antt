-- What a reader asks at a place of a batch: whether a table stands there, its bytes, and where the next begins.
use Rattle.std.specs.Prelude.{Bool, true, false, List, [], ℕ}
use Rattle.batches.specs.Batch.{Standing, table, end, part}

abbrev pub is_table : Standing → Bool
is_table (table from to) = true
is_table (end e) = false

-- the table's bytes, "handed on as a part of the batch from its middle"; no byte where the batch has ended
abbrev pub bytes_of : List ℕ → Standing → List ℕ
bytes_of b (table from to) = part b from to
bytes_of b (end e) = []

-- the place after it; the end is stayed at
abbrev pub place_after : ℕ → Standing → ℕ
place_after place (table from to) = to
place_after place (end e) = place

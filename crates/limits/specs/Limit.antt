-- How many records a table may have: the one place that says it in the definitions.
use Rattle.std.specs.Prelude.{ℕ}

-- "Raise the limit to 200 records, 3,200 bytes"
abbrev pub limit : ℕ
limit = 200

-- how many a small one has at most; no answer depends on it
abbrev pub small : ℕ
small = 64

-- how many a middling one has at most; no answer depends on it
abbrev pub middle : ℕ
middle = 128

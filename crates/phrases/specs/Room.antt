-- Room for a text.
use Rattle.std.specs.Prelude.{List, ℕ, ◌+◌, ◌≤◌, length}

-- the text has room from `at` on
abbrev pub Room : List ℕ → ℕ → List ℕ → Type 0
Room out at text = at + length text ≤ length out

-- A batch of given tables: before each its header.
use Rattle.std.specs.Prelude.{List, [], ◌∷◌, ◌++◌, ℕ, ◌/◌, ◌%◌, length}

-- "before each table the two-byte mark 54 42 (hex) and its length in bytes, two bytes, low byte first"
abbrev pub packed_one : List ℕ → List ℕ
packed_one t = 84 ∷ 66 ∷ (length t % 256) ∷ (length t / 256) ∷ t

abbrev pub packed : List (List ℕ) → List ℕ
packed [] = []
packed (t ∷ ts) = packed_one t ++ packed ts

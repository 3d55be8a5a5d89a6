-- Columns from bytes.
use Rattle.std.specs.Prelude.{Bool, ◌&&◌, ◌||◌, ℕ, eqb, ltb, leb}
use Rattle.record.specs.Form.{pick}
use Rattle.columns.specs.Columns.{no_number, no_place}

abbrev pub place_from : ℕ → ℕ → ℕ
place_from kind location = pick (eqb kind 0) no_place location

abbrev pub arm_from : ℕ → ℕ → ℕ
arm_from kind parent = pick (eqb kind 0) no_number parent

abbrev pub acquires_code : ℕ → Bool
acquires_code order = eqb order 1 || leb 3 order

-- of record b with this source and order, where the source has the order o
abbrev pub sync_from : ℕ → ℕ → ℕ → ℕ → ℕ
sync_from b source order o = pick (ltb source b) (pick (acquires_code order && leb 2 o) source no_number) no_number

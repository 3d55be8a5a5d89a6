-- Room for the longest text.
use Rattle.std.specs.Prelude.{ℕ, ◌+◌, ◌*◌, length}
use Rattle.limits.specs.Limit.{limit}
use Rattle.findings.specs.Family.{all_in_order}

-- no text is longer: the lines of the count and of the verdict, and for each finding its name, `none` or a space and three digits for each record, and
-- the line end
abbrev pub longest : ℕ
longest = 32 + length all_in_order * (8 + 4 * limit)

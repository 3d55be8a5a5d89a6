-- The figures over a list of answers: what each counts.
use Rattle.std.specs.Prelude.{Bool, true, false, List, [], ◌∷◌, map, ℕ, ◌+◌, max, eqb, length, Option, None, Some}
use Rattle.laws.specs.Witness.{Witness}
use Rattle.findings.specs.declared.Finding.{Finding}
use Rattle.findings.specs.declared.Verdict.{Verdict}
use Rattle.findings.specs.declared.Verdict.TheVariants.{Undefined, Inconsistent, Consistent}
use Rattle.findings.specs.Family.{all_in_order}
use Rattle.tally.specs.Answer.{Answer, refused, reported}
use Rattle.tally.specs.declared.Figures.{Figures}

-- ---- counting

abbrev pub one_if : Bool → ℕ
one_if true = 1
one_if false = 0

-- how many of these answers are such
abbrev pub how_many : (Answer → Bool) → List Answer → ℕ
how_many such [] = 0
how_many such (x ∷ l) = one_if (such x) + how_many such l

-- ---- what is counted

-- the numbers of the refusals that a table can get: 1 for its length, 2 to 8 for a record
abbrev pub numbers : List ℕ
numbers = 1 ∷ 2 ∷ 3 ∷ 4 ∷ 5 ∷ 6 ∷ 7 ∷ 8 ∷ []

-- "refusals by number"
abbrev pub refused_with : ℕ → Answer → Bool
refused_with number (refused told) = eqb told.number number
refused_with number (reported n x) = false

abbrev pub has_witness : Option Witness → Bool
has_witness None = false
has_witness (Some w) = true

-- "each finding": the report has a witness of it
abbrev pub finds : Finding → Answer → Bool
finds f (refused told) = false
finds f (reported n x) = has_witness (x.witness f)

abbrev pub same_verdict : Verdict → Verdict → Bool
same_verdict Consistent Consistent = true
same_verdict Consistent Inconsistent = false
same_verdict Consistent Undefined = false
same_verdict Inconsistent Consistent = false
same_verdict Inconsistent Inconsistent = true
same_verdict Inconsistent Undefined = false
same_verdict Undefined Consistent = false
same_verdict Undefined Inconsistent = false
same_verdict Undefined Undefined = true

-- "each verdict"
abbrev pub judged_to : Verdict → Answer → Bool
judged_to v (refused told) = false
judged_to v (reported n x) = same_verdict v x.verdict

-- ---- the largest table

-- the records of a table that is not refused
abbrev pub records : Answer → ℕ
records (refused told) = 0
records (reported n x) = n

-- "the largest table in records among those not refused (0 if there is none)"
abbrev pub largest_of : List Answer → ℕ
largest_of [] = 0
largest_of (x ∷ l) = max (records x) (largest_of l)

-- ---- all of them

-- "exact numbers of tables, of refusals by number, of each finding, of each verdict, and the largest table": the refusals from 1 on, the findings in
-- the order of the report
unfoldable pub figures_of : List Answer → Figures
figures_of answers = record {
  tables = length answers;
  refused = map (λ number. how_many (refused_with number) answers) numbers;
  found = map (λ f. how_many (finds f) answers) all_in_order;
  consistent = how_many (judged_to Consistent) answers;
  inconsistent = how_many (judged_to Inconsistent) answers;
  undefined = how_many (judged_to Undefined) answers;
  largest = largest_of answers;
}

-- The report as text: every byte of every line that document 01 shows.
use Rattle.std.specs.Prelude.{List, [], ◌∷◌, ◌++◌, ℕ, Option, None, Some}
use Rattle.laws.specs.Witness.{Witness, a_record, a_pair, a_cycle}
use Rattle.findings.specs.declared.Finding.{Finding}
use Rattle.findings.specs.declared.Verdict.{Verdict}
use Rattle.findings.specs.declared.Verdict.TheVariants.{Undefined, Inconsistent, Consistent}
use Rattle.findings.specs.Family.{all_in_order, name_of}
use Rattle.text.specs.Text.{each, spaced, spaced_each}
use Rattle.phrases.specs.Phrases.{line}

-- ---- the words, in ASCII

-- "events"
abbrev pub events_word : List ℕ
events_word = 101 ∷ 118 ∷ 101 ∷ 110 ∷ 116 ∷ 115 ∷ []

-- " none"
abbrev pub none_word : List ℕ
none_word = 32 ∷ 110 ∷ 111 ∷ 110 ∷ 101 ∷ []

-- "verdict"
abbrev pub verdict_word : List ℕ
verdict_word = 118 ∷ 101 ∷ 114 ∷ 100 ∷ 105 ∷ 99 ∷ 116 ∷ []

-- " undefined", " inconsistent", " consistent"
abbrev pub verdict_text : Verdict → List ℕ
verdict_text Undefined = 32 ∷ 117 ∷ 110 ∷ 100 ∷ 101 ∷ 102 ∷ 105 ∷ 110 ∷ 101 ∷ 100 ∷ []
verdict_text Inconsistent = 32 ∷ 105 ∷ 110 ∷ 99 ∷ 111 ∷ 110 ∷ 115 ∷ 105 ∷ 115 ∷ 116 ∷ 101 ∷ 110 ∷ 116 ∷ []
verdict_text Consistent = 32 ∷ 99 ∷ 111 ∷ 110 ∷ 115 ∷ 105 ∷ 115 ∷ 116 ∷ 101 ∷ 110 ∷ 116 ∷ []

-- ---- the lines

-- "`none` or its numbers"
abbrev pub witness_text : Option Witness → List ℕ
witness_text None = none_word
witness_text (Some (a_record n)) = spaced n
witness_text (Some (a_pair p)) = spaced p.first ++ spaced p.second
witness_text (Some (a_cycle l)) = spaced_each l

abbrev pub finding_line : (Finding → Option Witness) → Finding → List ℕ
finding_line witness f = line (name_of f) (witness_text (witness f))

-- the lines of these findings, one after another
abbrev pub lines_of : (Finding → Option Witness) → List Finding → List ℕ
lines_of witness = each (finding_line witness)

-- the whole report of a table of so many records: `events`, a line for each finding in order, the verdict
unfoldable pub report_text : ℕ → (Finding → Option Witness) → Verdict → List ℕ
report_text count witness verdict =
    line events_word (spaced count) ++ (lines_of witness all_in_order ++ line verdict_word (verdict_text verdict))

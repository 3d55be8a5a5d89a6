-- Monday's figures as text, in the words that were decided (docs/DECISIONS.md, 43).
use Rattle.std.specs.Prelude.{cond, List, [], ◌∷◌, ◌++◌, ℕ, ◌-◌, eqb, get_or}
use Rattle.findings.specs.declared.Finding.{Finding}
use Rattle.findings.specs.Family.{all_in_order, place_of, name_of}
use Rattle.batches.specs.Batch.{End, cleanly, refused}
use Rattle.text.specs.Text.{each, spaced}
use Rattle.phrases.specs.Phrases.{line, refused_word, refused_text}
use Rattle.tally.specs.declared.Figures.{Figures}
use Rattle.tally.specs.Figures.{numbers}

-- ---- the words, in ASCII

-- "tables"
abbrev pub tables_word : List ℕ
tables_word = 116 ∷ 97 ∷ 98 ∷ 108 ∷ 101 ∷ 115 ∷ []

-- "consistent", "inconsistent", "undefined"
abbrev pub consistent_word : List ℕ
consistent_word = 99 ∷ 111 ∷ 110 ∷ 115 ∷ 105 ∷ 115 ∷ 116 ∷ 101 ∷ 110 ∷ 116 ∷ []

abbrev pub inconsistent_word : List ℕ
inconsistent_word = 105 ∷ 110 ∷ consistent_word

abbrev pub undefined_word : List ℕ
undefined_word = 117 ∷ 110 ∷ 100 ∷ 101 ∷ 102 ∷ 105 ∷ 110 ∷ 101 ∷ 100 ∷ []

-- "largest"
abbrev pub largest_word : List ℕ
largest_word = 108 ∷ 97 ∷ 114 ∷ 103 ∷ 101 ∷ 115 ∷ 116 ∷ []

-- ---- the lines

-- "`refused 1 N` to `refused 8 N`"
abbrev pub refused_line : List ℕ → ℕ → List ℕ
refused_line counts number = line refused_word (spaced number ++ spaced (get_or counts (number - 1) 0))

-- "`R N`, `A1 N` .. in the report's order"
abbrev pub found_line : List ℕ → Finding → List ℕ
found_line counts f = line (name_of f) (spaced (get_or counts (place_of f) 0))

-- the tables, the refusals and the findings
abbrev pub counts_text : Figures → List ℕ
counts_text f = line tables_word (spaced f.tables) ++ (each (refused_line f.refused) numbers ++ each (found_line f.found) all_in_order)

abbrev pub verdicts_text : Figures → List ℕ
verdicts_text f =
    line consistent_word (spaced f.consistent)
    ++ (line inconsistent_word (spaced f.inconsistent) ++ line undefined_word (spaced f.undefined))

unfoldable pub figures_text : Figures → List ℕ
figures_text f = counts_text f ++ (verdicts_text f ++ line largest_word (spaced f.largest))

-- "then, if the batch ended early, its line as `refused 14 at 20`. A batch refused with 1 gives `refused 1 at 0` alone."
unfoldable pub sheet_text : Figures → End → List ℕ
sheet_text f cleanly = figures_text f
sheet_text f (refused told) = cond (eqb told.number 1) (refused_text told) (figures_text f ++ refused_text told)

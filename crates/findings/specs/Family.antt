-- The findings as a family: each in the order of the report, its name, and what was found of it.
use Rattle.std.specs.Prelude.{Bool, true, false, List, [], ◌∷◌, ℕ, get_or}
use Rattle.findings.specs.declared.Finding.{Finding}
use Rattle.findings.specs.declared.Finding.TheVariants.{R, A1, A2, A3, A4, A5, W}
use Rattle.findings.specs.declared.Found.{Found}
use Rattle.findings.specs.declared.Found.TheVariants as found
use Rattle.findings.specs.declared.Findings.{Findings}

-- every finding, in the order of the report
abbrev pub all_in_order : List Finding
all_in_order = R ∷ A1 ∷ A2 ∷ A3 ∷ A4 ∷ A5 ∷ W ∷ []

-- the place of each there
abbrev pub place_of : Finding → ℕ
place_of R = 0
place_of A1 = 1
place_of A2 = 2
place_of A3 = 3
place_of A4 = 4
place_of A5 = 5
place_of W = 6

-- the finding at a place
abbrev pub finding_at : ℕ → Finding
finding_at place = get_or all_in_order place R

-- its name in ASCII: "R", "A1", "A2", "A3", "A4", "A5", "W"
abbrev pub name_of : Finding → List ℕ
name_of R = 82 ∷ []
name_of A1 = 65 ∷ 49 ∷ []
name_of A2 = 65 ∷ 50 ∷ []
name_of A3 = 65 ∷ 51 ∷ []
name_of A4 = 65 ∷ 52 ∷ []
name_of A5 = 65 ∷ 53 ∷ []
name_of W = 87 ∷ []

-- whether a cycle that shows it stands in the second of "two lent buffers": that of A4
abbrev pub in_second : Finding → Bool
in_second R = false
in_second A1 = false
in_second A2 = false
in_second A3 = false
in_second A4 = true
in_second A5 = false
in_second W = false

-- what was found of it
abbrev pub found_of : Findings → Finding → Found
found_of x R = x.r
found_of x A1 = x.«a1»
found_of x A2 = x.«a2»
found_of x A3 = x.«a3»
found_of x A4 = x.«a4»
found_of x A5 = x.«a5»
found_of x W = x.w

-- whether there is a witness
abbrev pub there : Found → Bool
there found.Nothing = false
there (found.Record n) = true
there (found.Pair p q) = true
there (found.Cycle len) = true

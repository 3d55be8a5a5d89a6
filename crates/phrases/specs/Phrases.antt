-- A line of a name and what stands after it, and the line of a refusal: every byte that documents 01 and 02 show.
use Rattle.std.specs.Prelude.{List, [], ◌∷◌, ◌++◌, ℕ, Option, None, Some}
use Rattle.refusals.specs.declared.Told.{Told}
use Rattle.text.specs.Text.{spaced}

-- ---- the words, in ASCII

-- "refused", " at", " byte"
abbrev pub refused_word : List ℕ
refused_word = 114 ∷ 101 ∷ 102 ∷ 117 ∷ 115 ∷ 101 ∷ 100 ∷ []

abbrev pub at_word : List ℕ
at_word = 32 ∷ 97 ∷ 116 ∷ []

abbrev pub byte_word : List ℕ
byte_word = 32 ∷ 98 ∷ 121 ∷ 116 ∷ 101 ∷ []

-- ---- the lines

-- a name, what stands after it, and one line end
abbrev pub line : List ℕ → List ℕ → List ℕ
line name rest = name ++ (rest ++ (10 ∷ []))

-- a record's byte, where one is named
abbrev pub byte_text : Option ℕ → List ℕ
byte_text None = []
byte_text (Some i) = byte_word ++ spaced i

-- the place, and the byte there
abbrev pub where_text : Told → List ℕ
where_text told = spaced told.place ++ byte_text told.byte

abbrev pub place_text : Told → List ℕ
place_text told = spaced told.number ++ (at_word ++ where_text told)

-- "A refused table gives one line, as `refused 6 at 3`." With a byte it is as "`refused 4 at 17 byte 9`".
unfoldable pub refused_text : Told → List ℕ
refused_text told = line refused_word (place_text told)

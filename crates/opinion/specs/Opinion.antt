-- The text of the third opinion, and what writing it into a lent buffer gives.
use Rattle.std.specs.Prelude.{List, [], ◌∷◌, ℕ, Result, ◌<◌, ◌≤◌, length}
use Rattle.refusals.specs.declared.Refusal.{Refusal}
use Rattle.phrases.specs.Handed.{Front, Writes}
use Rattle.lines.specs.Answer.{TextOf}

-- "384 bytes (24 records)"
abbrev pub most : ℕ
most = 384

-- "too large" and a line end, in ASCII
abbrev pub too_large_text : List ℕ
too_large_text = 116 ∷ 111 ∷ 111 ∷ 32 ∷ 108 ∷ 97 ∷ 114 ∷ 103 ∷ 101 ∷ 10 ∷ []

-- "Its program writes only `too large` for an input above 384 bytes"; else the text of the table's answer, its refusal included
pub data OpinionOf (b : List ℕ) : List ℕ → Type 0 where
  too_large : most < length b → OpinionOf b too_large_text
  answered : {text : List ℕ} → length b ≤ most → TextOf b text → OpinionOf b text

abbrev pub OpinionAt : List ℕ → List ℕ → ℕ → Type 0
OpinionAt b = Front (OpinionOf b)

abbrev pub WriteOpinion : List ℕ → List ℕ → List ℕ → Result ℕ Refusal → Type 0
WriteOpinion b = Writes (OpinionOf b)

-- The text of a table's answer, and what writing it into a lent buffer gives.
use Rattle.std.specs.Prelude.{List, ℕ, Result, Ok, Err}
use Rattle.refusals.specs.declared.Refusal.{Refusal}
use Rattle.refusals.specs.Numbers.{told}
use Rattle.model.specs.Findings.{Report, Reports}
use Rattle.table.specs.Events.{events_of}
use Rattle.table.specs.Test.{TestAnswer}
use Rattle.phrases.specs.Phrases.{refused_text}
use Rattle.phrases.specs.Handed.{Front, Writes}
use Rattle.lines.specs.Lines.{report_text}

-- the text of the table b: the line of its refusal, or its report
pub data TextOf (b : List ℕ) : List ℕ → Type 0 where
  refused : {r : Refusal} → TestAnswer b (Err r) → TextOf b (refused_text (told r))
  reported : {n : ℕ} {x : Report} → TestAnswer b (Ok n) → Reports (events_of b) x → TextOf b (report_text n x.witness x.verdict)

-- ---- it into a lent buffer

abbrev pub TextAt : List ℕ → List ℕ → ℕ → Type 0
TextAt b = Front (TextOf b)

abbrev pub WriteAnswer : List ℕ → List ℕ → List ℕ → Result ℕ Refusal → Type 0
WriteAnswer b = Writes (TextOf b)

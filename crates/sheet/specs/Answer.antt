-- The text of a batch's figures, and what writing it into a lent buffer gives.
use Rattle.std.specs.Prelude.{List, ℕ, Result, ◌+◌, ◌*◌, length}
use Rattle.refusals.specs.declared.Refusal.{Refusal}
use Rattle.findings.specs.Family.{all_in_order}
use Rattle.batches.specs.Batch.{End}
use Rattle.batches.specs.Answers.{AnswersOf}
use Rattle.phrases.specs.Handed.{Writes}
use Rattle.tally.specs.Answer.{Answer, AnswerOf}
use Rattle.tally.specs.Figures.{numbers, figures_of}
use Rattle.sheet.specs.Sheet.{sheet_text}

-- the text of the figures over the batch's answers, with how it ended
pub data SheetOf (b : List ℕ) : List ℕ → Type 0 where
  with_figures : {answers : List Answer} {e : End} → AnswersOf AnswerOf b answers e → SheetOf b (sheet_text (figures_of answers) e)

-- no text is longer: 21 bytes for each line, those of the tables, the verdicts, the largest and the ending among them
abbrev pub longest_sheet : ℕ
longest_sheet = 21 * (6 + length numbers + length all_in_order)

abbrev pub WriteFigures : List ℕ → List ℕ → List ℕ → Result ℕ Refusal → Type 0
WriteFigures b = Writes (SheetOf b)

-- A batch has one text of its figures, and writing it has one result.
use mathlib.Core.Path.{◌≡◌, ap₂}
use mathlib.Core.List.{List}
use Prim.Native.Nat.{ℕ}
use Rattle.batches.proofs.Answering.{answers_one}
use Rattle.std.proofs.Common.{Result}
use Rattle.refusals.specs.declared.Refusal.{Refusal}
use Rattle.phrases.proofs.Handing.{OneResult, writes_one}
use Rattle.tally.specs.Answer.{Answer, AnswerOf}
use Rattle.tally.specs.Figures.{figures_of}
use Rattle.tally.proofs.Unique.{answer_one}
use Rattle.sheet.specs.Sheet.{sheet_text}
use Rattle.sheet.specs.Answer.{SheetOf, with_figures, WriteFigures}

module _ {b : List ℕ} where
  pub sheet_one : (s u : List ℕ) → SheetOf b s → SheetOf b u → s ≡ u
  sheet_one _ _ (with_figures p) (with_figures q) =
      let same = answers_one AnswerOf answer_one p q in
      ap₂ (λ (l : List Answer). sheet_text (figures_of l)) same.answers same.ending

  pub write_one : {before after after' : List ℕ} {x y : Result ℕ Refusal} → WriteFigures b before after x → WriteFigures b before after' y → OneResult x y after after'
  write_one = writes_one (SheetOf b) sheet_one

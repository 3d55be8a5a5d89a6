-- The text of what was counted is the text of the batch's figures, and fits.
use mathlib.Core.Path.{◌≡◌, sym, ap, subst}
use mathlib.Core.List.{List}
use Prim.Native.Nat.{ℕ, ◌≤◌}
use native.Mathlib.Omega.{arith}
use lib.ListN.{length}
use Rattle.std.proofs.Common.{Err}
use Rattle.refusals.specs.declared.Refusal.{Refusal}
use Rattle.batches.specs.Batch.{end_of}
use Rattle.phrases.specs.Room.{Room}
use Rattle.phrases.specs.Handed.{Writes}
use Rattle.tally.specs.declared.Figures.{Figures}
use Rattle.tally.specs.Figures.{figures_of}
use Rattle.monday.specs.declared.Monday.{Monday}
use Rattle.monday.specs.Monday.{MondayOf}
use Rattle.sheet.specs.Sheet.{sheet_text}
use Rattle.sheet.specs.Answer.{SheetOf, with_figures, longest_sheet, WriteFigures}
use Rattle.sheet.proofs.Lengths.{sheet_short}

module _ {b : List ℕ} {x : Monday} (is : MondayOf b x) where
  text : sheet_text x.figures (end_of x.ending) ≡ sheet_text (figures_of is.answers) (end_of x.ending)
  text = ap (λ (f : Figures). sheet_text f (end_of x.ending)) is.is

  pub told_sheet : SheetOf b (sheet_text x.figures (end_of x.ending))
  told_sheet = subst (SheetOf b) (sym text) (with_figures is.of)

module _ {b : List ℕ} (out : List ℕ) (room : longest_sheet ≤ length out) {x : Monday} (is : MondayOf b x) where
  pub sheet_room : Room out 0 (sheet_text x.figures (end_of x.ending))
  sheet_room = omega (arith, ap length (text is), sheet_short is.of)

-- an output of that length is never refused
pub never_short : {A : Type 0} {b before after : List ℕ} {r : Refusal} → longest_sheet ≤ length before → WriteFigures b before after (Err r) → A
never_short room (Writes.no_room (with_figures p) h _ _) = absurd (omega (arith, sheet_short p))

-- The text of a batch that ended early: of one refused with 1 the refusal alone, of any other the figures too.
use mathlib.Core.Path.{◌≡◌}
use mathlib.Core.List.{◌++◌}
use borrow.Author.Tests.{ne_eqb}
use Rattle.refusals.specs.declared.Told.{Told}
use Rattle.batches.specs.Batch.{refused}
use Rattle.phrases.specs.Phrases.{refused_text}
use Rattle.tally.specs.declared.Figures.{Figures}
use Rattle.sheet.specs.Sheet.{figures_text, sheet_text}

module _ (f : Figures) (told : Told) where
  pub only_refused : told.number ≡ 1 → sheet_text f (refused told) ≡ refused_text told
  unfolding sheet_text
  only_refused is = rw is

  pub both : ¬ (told.number ≡ 1) → sheet_text f (refused told) ≡ figures_text f ++ refused_text told
  unfolding sheet_text
  both is = rw (ne_eqb told.number 1 is)

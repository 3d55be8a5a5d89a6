-- A batch has one answer: its figures and how it ended.
use mathlib.Core.Path.{◌≡◌, sym, ap, ◌∙◌}
use mathlib.Core.List.{List}
use Prim.Native.Nat.{ℕ}
use Rattle.batches.proofs.Answering.{answers_one}
use Rattle.batches.proofs.Unique.{ending_one}
use Rattle.tally.specs.Answer.{AnswerOf}
use Rattle.tally.specs.Figures.{figures_of}
use Rattle.tally.proofs.Unique.{answer_one}
use Rattle.monday.specs.declared.Monday.{Monday}
use Rattle.monday.specs.Monday.{MondayOf}

pub monday_one : {b : List ℕ} (x y : Monday) → MondayOf b x → MondayOf b y → x ≡ y
monday_one x y p q =
    let same = answers_one AnswerOf answer_one p.of q.of in
    let figures : x.figures ≡ y.figures = p.is ∙ (ap figures_of same.answers ∙ sym q.is) in
    let ending = ending_one x.ending y.ending same.ending in
    λ i. record { figures = figures i; ending = ending i }

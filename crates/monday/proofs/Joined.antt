-- "Two batches joined give the sums, if the first ended cleanly and the whole is within W1's limit"; and a batch that is too long.
use mathlib.Core.Path.{◌≡◌, sym, ap, ap₂, ◌∙◌}
use mathlib.Core.List.{List, [], ◌++◌}
use Prim.Native.Nat.{ℕ, ◌<◌, ◌≤◌}
use lib.ListN.{length}
use Rattle.std.proofs.Common.{Ok}
use Rattle.refusals.specs.Numbers.{at}
use Rattle.batches.specs.Batch.{most, cleanly, refused, moved_on, end_of}
use Rattle.batches.specs.Answers.{AnswersOf}
use Rattle.batches.proofs.Answering.{answers_one, answers_joined}
use Rattle.batches.proofs.Edges.{long_batch}
use Rattle.tally.specs.Answer.{AnswerOf}
use Rattle.tally.specs.Figures.{figures_of}
use Rattle.tally.specs.Sums.{sums}
use Rattle.tally.proofs.Laws.{figures_join}
use Rattle.tally.proofs.Unique.{answer_one}
use Rattle.monday.specs.declared.Monday.{Monday}
use Rattle.monday.specs.Monday.{MondayOf}

-- the sums of both, "the largest table is the larger of the two, and a refusal of the second has its place moved on by the first's length"
pub record SumsOf (n : ℕ) (x y whole : Monday) : Type 0 where
  pub figures : whole.figures ≡ sums x.figures y.figures
  pub ending : end_of whole.ending ≡ moved_on n (end_of y.ending)

pub monday_joined :
    {a b : List ℕ} {x y whole : Monday} → length (a ++ b) ≤ most → x.ending ≡ Ok tt → MondayOf a x → MondayOf b y → MondayOf (a ++ b) whole
    → SumsOf (length a) x y whole
monday_joined {a} {b} {x} {y} {whole} within clean p q r =
    let first : AnswersOf AnswerOf a p.answers cleanly = rw clean at p.of in
    let same = answers_one AnswerOf answer_one r.of (answers_joined AnswerOf within first q.of) in record {
      figures =
          r.is
          ∙ ap figures_of same.answers
          ∙ figures_join p.answers q.answers
          ∙ ap₂ sums (sym p.is) (sym q.is);
      ending = same.ending;
    }

-- "A batch refused with 1 has no figures, only that refusal."
pub record OnlyRefused (x : Monday) : Type 0 where
  pub ending : end_of x.ending ≡ refused (at 1 0)
  pub figures : x.figures ≡ figures_of []

pub monday_too_long : {b : List ℕ} {x : Monday} → most < length b → MondayOf b x → OnlyRefused x
monday_too_long {b} long p =
    let same = answers_one AnswerOf answer_one p.of (long_batch AnswerOf b long) in
    record { ending = same.ending; figures = p.is ∙ ap figures_of same.answers }

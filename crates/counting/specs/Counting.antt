-- The figures of one table, and with it those of the tables before it.
use Rattle.std.specs.Prelude.{◌≡◌, List, [], ◌∷◌, ℕ}
use Rattle.tally.specs.declared.Figures.{Figures}
use Rattle.tally.specs.Answer.{Answer, AnswerOf}
use Rattle.tally.specs.Figures.{figures_of}
use Rattle.tally.specs.Sums.{sums}

-- x is the figures over the one answer of the table b
pub record FiguresOfOne (b : List ℕ) (x : Figures) : Type 0 where
  pub answer : Answer
  pub of : AnswerOf b answer
  pub is : x ≡ figures_of (answer ∷ [])

-- x is f with the table b counted too
pub record WithTable (f : Figures) (b : List ℕ) (x : Figures) : Type 0 where
  pub answer : Answer
  pub of : AnswerOf b answer
  pub is : x ≡ sums f (figures_of (answer ∷ []))

-- `of_table` meets its contract: what the judge answers says the figures; its two buffers have the room it asks for.
use mathlib.Core.Path.{sym, subst}
use native.Mathlib.Omega.{arith}
use Rattle.counting.specs.Counting.{FiguresOfOne}
use Rattle.counting.proofs.Answering.{judged_figures}
use Rattle.counting.proofs.of_table.Goals as goal

pub returns : goal.returns
returns c = subst (FiguresOfOne _) (sym c.of_judged.ensures) (judged_figures (record { first = omega arith; second = omega arith }) c.judge.ensures)

-- `refused_lines` meets its contract: the line of each number has room, and stands after those passed.
use mathlib.Core.Path.{◌≡◌, refl, ap, ◌∙◌}
use mathlib.Core.List.{List, ◌++◌}
use Prim.Native.Nat.{ℕ, ◌-◌, ◌<◌}
use native.Mathlib.Omega.{arith}
use lib.ListN.{length, get_or}
use Rattle.text.specs.Text.{spaced}
use Rattle.text.proofs.Laws.{written_text, each_room, each_more}
use Rattle.phrases.specs.Phrases.{line, refused_word}
use Rattle.tally.specs.Figures.{numbers}
use Rattle.tally.proofs.Laws.{number_at}
use Rattle.sheet.specs.Sheet.{refused_line}
use Rattle.sheet.proofs.refused_lines.Goals as goal

-- the count of a number stands one place before it
line_is : (counts : List ℕ) (place : ℕ) → place < length numbers → line refused_word (spaced (get_or numbers place 0) ++ spaced (get_or counts place 0)) ≡ refused_line counts (get_or numbers place 0)
line_is counts place h = ap (λ (k : ℕ). line refused_word (spaced (get_or numbers place 0) ++ spaced (get_or counts k 0))) back
  where
    back : place ≡ get_or numbers place 0 - 1
    back = omega (arith, number_at place h)

pub refused_line-requires : goal.refused_line-requires
refused_line-requires c = let counts = c.args.counts in
    omega (
      arith,
      ap length (line_is counts c.loop-place.place c.loop-place-test.true),
      each_room (refused_line counts) _ _ _ _ _ _ 0 _ c.loop-place-test.true c.requires c.loop-place.invariant.written refl,
    )

pub loop-place-preserved : goal.loop-place-preserved
loop-place-preserved c = let counts = c.args.counts in record {
  same_reference = c.refused_line.ensures.same_reference ∙ c.loop-place.invariant.same_reference;
  written =
      each_more (refused_line counts) _ _ _ _ _ _ 0 _ c.loop-place-test.true c.requires c.loop-place.invariant.written refl
      (written_text (line_is counts c.loop-place.place c.loop-place-test.true) c.refused_line.ensures.written);
}

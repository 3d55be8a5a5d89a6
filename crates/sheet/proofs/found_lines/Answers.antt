-- `found_lines` meets its contract: the line of each finding has room, and stands after those passed.
use mathlib.Core.Path.{◌≡◌, refl, sym, ap, ◌∙◌}
use mathlib.Core.List.{List}
use Prim.Native.Nat.{ℕ, ◌<◌}
use native.Mathlib.Omega.{arith}
use lib.ListN.{length, get_or}
use Rattle.findings.specs.declared.Finding.TheVariants.{R}
use Rattle.findings.specs.Family.{all_in_order, finding_at, name_of}
use Rattle.findings.proofs.Family.{place_at}
use Rattle.text.specs.Text.{spaced}
use Rattle.text.proofs.Laws.{written_text, each_room, each_more}
use Rattle.phrases.specs.Phrases.{line}
use Rattle.sheet.specs.Sheet.{found_line}
use Rattle.sheet.proofs.found_lines.Goals as goal

-- the count of a finding stands at its place
line_is : (counts : List ℕ) (place : ℕ) → place < length all_in_order → line (name_of (finding_at place)) (spaced (get_or counts place 0)) ≡ found_line counts (finding_at place)
line_is counts place h = ap (λ (k : ℕ). line (name_of (finding_at place)) (spaced (get_or counts k 0))) (sym (place_at place h))

pub found_line-requires : goal.found_line-requires
found_line-requires c = let counts = c.args.counts in
    omega (
      arith,
      ap length (line_is counts c.loop-place.place c.loop-place-test.true),
      each_room (found_line counts) _ _ _ _ _ _ R _ c.loop-place-test.true c.requires c.loop-place.invariant.written refl,
    )

pub loop-place-preserved : goal.loop-place-preserved
loop-place-preserved c = let counts = c.args.counts in record {
  same_reference = c.found_line.ensures.same_reference ∙ c.loop-place.invariant.same_reference;
  written =
      each_more (found_line counts) _ _ _ _ _ _ R _ c.loop-place-test.true c.requires c.loop-place.invariant.written refl
      (written_text (line_is counts c.loop-place.place c.loop-place-test.true) c.found_line.ensures.written);
}

-- `put_counts` meets its contract: the line of the tables, then those of the refusals and of the findings.
use mathlib.Core.List.{List, ◌++◌}
use Prim.Native.Nat.{ℕ}
use Rattle.findings.specs.Family.{all_in_order}
use Rattle.text.specs.Text.{each}
use Rattle.phrases.proofs.Pieces.{room_front, room_back, written_three}
use Rattle.tally.specs.declared.Figures.{Figures}
use Rattle.tally.specs.Figures.{numbers}
use Rattle.sheet.specs.Sheet.{refused_line, found_line}
use Rattle.sheet.proofs.put_counts.Goals as goal

abbrev refused : Figures → List ℕ
refused f = each (refused_line f.refused) numbers

abbrev found : Figures → List ℕ
found f = each (found_line f.found) all_in_order

pub refused_lines-requires : goal.refused_lines-requires
refused_lines-requires c = let f = c.args.figures in
    let t = c.number_line.new.text in
    room_front t.out.now t.at (refused f) (found f) (room_back (refused f ++ found f) c.requires c.number_line.ensures.written)

pub found_lines-requires : goal.found_lines-requires
found_lines-requires c = let f = c.args.figures in
    room_back (found f) (room_back (refused f ++ found f) c.requires c.number_line.ensures.written) c.refused_lines.ensures.written

pub returns-clause-written : goal.returns-clause-written
returns-clause-written c = written_three c.requires c.number_line.ensures.written c.refused_lines.ensures.written c.found_lines.ensures.written

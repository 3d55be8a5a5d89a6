-- `found_lines` meets its contract: in the loop the lines of the findings passed stand.
use lib.ListN.{take}
use Rattle.std.specs.Prelude.{◌≡◌}
use Rattle.text.specs.Text.{Written, each}
use Rattle.sheet.specs.Sheet.{found_line}
use Rattle.sheet.proofs.found_lines.Given as goal

abbrev pub invariant-loop-place : goal.invariant-loop-place
invariant-loop-place l = record {
  same_reference : l.text.out.ghost_name ≡ l.initial.text.out.ghost_name;
  written : Written l.initial.text.out.now l.initial.text.at (each (found_line l.counts) (take l.place l.finding-items)) l.text.out.now l.text.at;
}

-- `family::put_findings` meets its contract: in the loop the lines of the findings passed stand.
use lib.ListN.{take}
use Rattle.std.specs.Prelude.{◌≡◌}
use Rattle.text.specs.Text.{Written}
use Rattle.lines.specs.Lines.{lines_of}
use Rattle.lines.specs.Witnesses.{witnesses}
use Rattle.lines.proofs.family.put_findings.Given as goal

abbrev pub invariant-loop-finding : goal.invariant-loop-finding
invariant-loop-finding l = record {
  same_reference : l.text.out.ghost_name ≡ l.initial.text.out.ghost_name;
  written : Written l.initial.text.out.now l.initial.text.at (lines_of (witnesses l.x l.first l.second) (take l.finding-index l.finding-items)) l.text.out.now l.text.at;
}

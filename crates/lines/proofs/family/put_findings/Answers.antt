-- `family::put_findings` meets its contract: the line of each finding stands after those passed.
use mathlib.Core.Path.{refl, ◌∙◌}
use Rattle.findings.specs.declared.Finding.TheVariants.{R}
use Rattle.text.proofs.Laws.{written_text, each_more}
use Rattle.lines.specs.Lines.{finding_line}
use Rattle.lines.specs.Witnesses.{witnesses}
use Rattle.lines.proofs.Reading.{line_is}
use Rattle.lines.proofs.family.put_findings.Goals as goal

pub loop-finding-preserved : goal.loop-finding-preserved
loop-finding-preserved c = let a = c.args in record {
  same_reference = c.finding_line.ensures.same_reference ∙ c.loop-finding.invariant.same_reference;
  written =
      each_more (finding_line (witnesses a.x a.first.now a.second.now)) _ _ _ _ _ _ R _ c.loop-finding-test.true c.requires.0 c.loop-finding.invariant.written refl
      (written_text (line_is a.x a.first.now a.second.now _ c.of-found.ensures c.buffer_of-records.ensures) c.finding_line.ensures.written);
}

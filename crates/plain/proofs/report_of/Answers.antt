-- `report_of` meets its contract: the verdict follows from what was found.
use Rattle.judge.proofs.Reporting.{report_right}
use Rattle.plain.proofs.report_of.Goals as goal

pub returns : goal.returns
returns c = report_right c.requires.0.all c.find_all-findings.ensures c.verdict_of.ensures

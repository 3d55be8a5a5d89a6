-- `put_report` meets its contract: the count, the lines of the findings, the verdict.
use mathlib.Core.List.{List, ◌++◌}
use Rattle.findings.specs.declared.Findings.{Findings}
use Rattle.findings.specs.declared.Verdict.{Verdict}
use Rattle.findings.specs.Family.{all_in_order}
use Prim.Native.Nat.{ℕ}
use Rattle.text.specs.Text.{spaced}
use Rattle.phrases.specs.Phrases.{line}
use Rattle.phrases.proofs.Pieces.{room_front, room_back, written_three}
use Rattle.lines.specs.Lines.{events_word, verdict_word, verdict_text, lines_of, report_text}
use Rattle.lines.specs.Witnesses.{witnesses}
use Rattle.lines.proofs.put_report.Goals as goal

abbrev count : ℕ → List ℕ
count n = line events_word (spaced n)

abbrev lines : Findings → List ℕ → List ℕ → List ℕ
lines x first second = lines_of (witnesses x first second) all_in_order

abbrev last : Verdict → List ℕ
last verdict = line verdict_word (verdict_text verdict)

pub number_line-requires : goal.number_line-requires
unfolding report_text
number_line-requires c = let a = c.args in
    room_front a.text.now.out.now a.text.now.at (count a.events) (lines a.x a.first.now a.second.now ++ last a.verdict) c.requires.0

pub put_findings-requires : goal.put_findings-requires
unfolding report_text
put_findings-requires c = let a = c.args in
    let lines = lines a.x a.first.now a.second.now in
    let made = c.number_line.new.text in
    (room_front made.out.now made.at lines (last a.verdict) (room_back (lines ++ last a.verdict) c.requires.0 c.number_line.ensures.written), c.requires.1)

pub verdict_line-requires : goal.verdict_line-requires
unfolding report_text
verdict_line-requires c = let a = c.args in
    room_back (last a.verdict) (room_back (lines a.x a.first.now a.second.now ++ last a.verdict) c.requires.0 c.number_line.ensures.written)
    c.put_findings.ensures.written

pub returns-clause-written : goal.returns-clause-written
unfolding report_text
returns-clause-written c = written_three c.requires.0 c.number_line.ensures.written c.put_findings.ensures.written c.verdict_line.ensures.written

-- The text of a judging's answer, with the records of its cycles at the front of two buffers.
use Rattle.std.specs.Prelude.{List, ℕ, Result, Ok, Err}
use Rattle.refusals.specs.declared.Refusal.{Refusal}
use Rattle.refusals.specs.Numbers.{told}
use Rattle.judge.specs.declared.Report.{Report}
use Rattle.phrases.specs.Phrases.{refused_text}
use Rattle.lines.specs.Lines.{report_text}
use Rattle.lines.specs.Witnesses.{witnesses, AllWhole}

-- the line of its refusal, or its report
abbrev pub judged_text : Result Report Refusal → List ℕ → List ℕ → List ℕ
judged_text (Err r) first second = refused_text (told r)
judged_text (Ok x) first second = report_text x.events (witnesses x.findings first second) x.verdict

-- with all records of every cycle there; a refusal has none
pub data JudgedWhole : Result Report Refusal → List ℕ → List ℕ → Type 0 where
  no_cycles : {r : Refusal} {first second : List ℕ} → JudgedWhole (Err r) first second
  all_cycles : {x : Report} {first second : List ℕ} → AllWhole x.findings first second → JudgedWhole (Ok x) first second

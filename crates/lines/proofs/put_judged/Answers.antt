-- `put_judged` meets its contract: each arm writes the text of what was judged.
use mathlib.Core.Path.{sym, subst}
use mathlib.Core.List.{List}
use Prim.Native.Nat.{ℕ}
use Rattle.std.proofs.Common.{Result, Ok}
use Rattle.refusals.specs.declared.Refusal.{Refusal}
use Rattle.judge.specs.declared.Report.{Report}
use Rattle.phrases.specs.Phrases.{refused_text}
use Rattle.phrases.proofs.Pieces.{room_as}
use Rattle.lines.specs.Witnesses.{AllWhole}
use Rattle.lines.specs.Judged.{judged_text, JudgedWhole, all_cycles}
use Rattle.lines.proofs.put_judged.Goals as goal

abbrev text : List ℕ → List ℕ → Result Report Refusal → List ℕ
text first second judged = judged_text judged first second

report_whole : {x : Report} {first second : List ℕ} → JudgedWhole (Ok x) first second → AllWhole x.findings first second
report_whole (all_cycles whole) = whole

pub put_refused-requires : goal.put_refused-requires
put_refused-requires c = let a = c.args in
    room_as refused_text a.out.now 0 (sym c.told.ensures)
    (room_as (text a.first.now a.second.now) a.out.now 0 c.in-Err.is c.requires.0)

pub put_report-requires : goal.put_report-requires
put_report-requires c = let a = c.args in (
  room_as (text a.first.now a.second.now) a.out.now 0 c.in-Ok.is c.requires.0,
  report_whole (subst (λ (j : Result Report Refusal). JudgedWhole j a.first.now a.second.now) c.in-Ok.is c.requires.1),
)

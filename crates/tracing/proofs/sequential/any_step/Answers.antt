-- `sequential::any_step` meets its contract: wb, fr and hbsc, each asked where those before were answered no.
use mathlib.Core.Logic.{◌⊎◌}
use borrow.Author.Tests.{tests}
use Rattle.std.proofs.Common.{rules}
use Rattle.laws.specs.Says.{Says}
use Rattle.model.specs.Relations.{Wb, Fr}
use Rattle.table.specs.Events.{events_of}
use Rattle.asking.proofs.Asked.{answered, next_asked}
use Rattle.tracing.proofs.StepsBack.{says_wb}
use Rattle.tracing.proofs.AmongSc.{says_any_step}
use Rattle.tracing.proofs.sequential.any_step.Goals as goal
use Rattle.tracing.proofs.sequential.any_step.Goals.{Joined-wb-a, then-wb-a, else-wb-a}

wb_or_fr : (c : Joined-wb-a) → Says c.if-wb-a.value (Wb (events_of c.args.table.now) c.args.a c.args.b ⊎ Fr (events_of c.args.table.now) c.args.a c.args.b)
wb_or_fr c = let row = c.requires.0 in
    elim c.if-wb-a.branch [
      | then-wb-a w ↦ rw w.value-is (answered (says_wb row.at.table row.steps row.at.col) (search (rules, tests)))
      | else-wb-a w ↦ rw w.value-is (next_asked (says_wb row.at.table row.steps row.at.col) (search (rules, tests)) w.reads_before.ensures)
    ]

pub returns-then-reads_before : goal.returns-then-reads_before
returns-then-reads_before c = let (sc_a, sc_b) = c.requires.1 in
    says_any_step sc_a sc_b (answered (wb_or_fr (goal.at.returns-then-reads_before c).Joined-wb-a) c.if-reads_before.true)

pub returns-else-reads_before : goal.returns-else-reads_before
returns-else-reads_before c = let (sc_a, sc_b) = c.requires.1 in
    says_any_step sc_a sc_b (next_asked (wb_or_fr (goal.at.returns-else-reads_before c).Joined-wb-a) c.if-reads_before.false c.hbsc.ensures)

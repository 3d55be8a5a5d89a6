-- `sequential::reads_before` meets its contract: the entry of the source tells.
use native.Mathlib.Omega.{arith}
use Rattle.facts.proofs.Records.{few}
use Rattle.tracing.proofs.AmongSc.{source_low, says_fr}
use Rattle.tracing.proofs.sequential.reads_before.Goals as goal

pub bounds-wb-s : goal.bounds-wb-s
bounds-wb-s c = let q = c.requires in
    omega (arith, few q.at.table, source_low q.at.table _ c.source.ensures c.in-Some.is)

pub returns-in-Some : goal.returns-in-Some
returns-in-Some c = let q = c.requires in
    says_fr q.at.table _ c.source.ensures c.in-Some.is
    c.if-a-b.true q.steps

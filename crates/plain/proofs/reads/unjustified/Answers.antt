-- `reads::unjustified` meets its contract: whether it is justified is asked of reads.
use Rattle.laws.proofs.Says.{said, says_is, says_not, says_iff}
use Rattle.plain.proofs.reads.unjustified.Goals as goal

pub returns-then-reads : goal.returns-then-reads
returns-then-reads c = says_iff (λ n. record { reads = said (says_is c.reads.ensures) c.if-reads.true; not_justified = n }) (λ z. z.not_justified) (says_not c.justified.ensures)

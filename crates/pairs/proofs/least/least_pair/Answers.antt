-- `least::least_pair` meets its contract: the rows joined have the first numbers of the pairs, and where they have none there is no pair.
use Rattle.laws.specs.Least.{Least}
use Rattle.laws.proofs.Says.{said}
use Rattle.findings.proofs.Meant.{found_no_pair}
use Rattle.pairs.proofs.least.least_pair.Goals as goal

pub returns-then-is_empty : goal.returns-then-is_empty
returns-then-is_empty g c = let none = said c.is_empty.ensures c.if-is_empty.true in
    found_no_pair (Least.absent (λ p z. none p.first (c.joined.ensures.all p.first (p.second, z.1))))

-- `reads::unjustified` meets its contract: it is told part by part.
use Rattle.laws.proofs.Says.{says_not, says_and, says_iff}
use Rattle.seeking.proofs.Reading.{reads_told}
use Rattle.seeking.proofs.reads.unjustified.Goals as goal

pub returns : goal.returns
returns g c = let l = c.requires.0 in
    λ t g.
    says_iff (λ (d, n). record { reads = d; not_justified = n }) (λ z. (z.reads, z.not_justified))
    (says_and (reads_told g l) (says_not (c.justified.ensures t _ g)))

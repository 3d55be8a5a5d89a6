-- `reads::justified` meets its contract: the column of sources tells which case it is.
use Rattle.laws.proofs.Says.{says_iff}
use Rattle.links.proofs.Reading.{says_justified, says_justified_without}
use Rattle.seeking.proofs.Reading.{raced_told, written_told, the_source, no_source}
use Rattle.seeking.proofs.reads.justified.Goals as goal

pub returns-then-s-b : goal.returns-then-s-b
returns-then-s-b g c = let l = c.requires.0 in
    λ t kind g.
    says_justified (raced_told g l c.is_raced-raced.ensures) (the_source g l c.if-s-b.true)
    (says_iff (g.by_hb.only _ _ l) (g.by_hb.all _ _ l) c.has.ensures)

pub returns : goal.returns
returns g c = let l = c.requires.0 in
    λ t kind g.
    says_justified_without (raced_told g l c.is_raced-raced.ensures) (no_source g l c.if-s-b.false)
    (written_told g l c.is_written.ensures)

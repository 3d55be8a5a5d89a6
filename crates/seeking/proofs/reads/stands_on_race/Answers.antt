-- `reads::stands_on_race` meets its contract: it is told part by part.
use Rattle.laws.proofs.Says.{says_no}
use Rattle.seeking.proofs.Reading.{raced_told, written_told, reads_told, not_without, stands_told}
use Rattle.seeking.proofs.reads.stands_on_race.Goals as goal

pub returns-then-of-b : goal.returns-then-of-b
returns-then-of-b g c = let l = c.requires.0 in λ t g. says_no (not_without g l c.if-of-b.true)

pub returns : goal.returns
returns g c = let l = c.requires.0 in
    λ t g.
    stands_told g l c.if-of-b.false (reads_told g l) (written_told g l c.is_written.ensures)
    (raced_told g l c.is_raced.ensures)

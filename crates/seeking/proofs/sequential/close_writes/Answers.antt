-- `sequential::close_writes` meets its contract: wb0 is closed by stages, or by rising rows where no step of it goes back.
use Rattle.seeking.proofs.Closing.{closed_risen, closed_gathered}
use Rattle.seeking.proofs.sequential.close_writes.Goals as goal

pub returns-then-back : goal.returns-then-back
returns-then-back g c = λ t k readers held.
    closed_gathered k readers held c.copy.ensures c.close.ensures c.gather.ensures

pub returns-else-back : goal.returns-else-back
returns-else-back g c = λ t k readers held. let z = c.rise.ensures in closed_risen k readers held z.0 z.1

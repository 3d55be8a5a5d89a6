-- `searching::find_cycles` meets its contract: wb0 is laid, and the cycles of both relations are searched for.
use Rattle.judge.proofs.Grounds.{sequenced}
use Rattle.judge.proofs.searching.find_cycles.Goals as goal

pub returns : goal.returns
returns g c = λ t g.
    let made = c.lay_writes.ensures t g.writing in
    record {
      of_writes = c.find_write_cycle-a1.ensures t g.writing.known made.holds;
      of_steps = c.find_sc_cycle-a4.ensures t (sequenced g made.holds);
    }

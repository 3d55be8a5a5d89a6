-- `cycles::least_cycle` meets its contract: the least closed walk from the least start, or no start.
use mathlib.Core.Path.{refl}
use native.Mathlib.Omega.{arith}
use Rattle.findings.proofs.Meant.{found_cycle, found_no_cycle}
use Rattle.facts.proofs.Records.{few}
use Rattle.tracing.proofs.Cycling as cycling
use Rattle.tracing.proofs.cycles.least_cycle.Goals as goal

pub returns-in_default : goal.returns-in_default
returns-in_default g c = let table = c.requires.0 in
    found_no_cycle (cycling.nothing (g.met.S.Steps.among _ _ table) (omega (arith, few table)) (rw c.in_default.is at c.least_start.ensures)) refl

pub write_cycle-requires : goal.write_cycle-requires
write_cycle-requires g c = let (table, room) = c.requires in
    let (inside, chosen) = rw c.in-Some.is at c.least_start.ensures in
    let on = g.met.S.Steps.among _ _ table in
    let steps = c.steps_to-dist.ensures in
    record {
      table = table;
      start = inside;
      is = refl;
      small = cycling.start_small on steps inside chosen;
      some = cycling.start_some on steps inside chosen;
      room = omega (arith, room, cycling.start_short on steps inside chosen);
      steps = steps;
    }

pub returns : goal.returns
returns g c = let table = c.requires.0 in
    let (inside, chosen) = rw c.in-Some.is at c.least_start.ensures in
    let w = c.write_cycle.ensures in
    found_cycle (cycling.found (g.met.S.Steps.among _ _ table) c.steps_to-dist.ensures inside chosen w.tail) (omega (arith, w.tail.long)) w.holds

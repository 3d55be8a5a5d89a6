-- `least_cycle_among` meets its contract: the least closed walk from the least start, or no start.
use mathlib.Core.Path.{refl}
use native.Mathlib.Omega.{arith}
use Rattle.std.proofs.Common.{rules}
use Rattle.findings.proofs.Meant.{found_cycle, found_no_cycle}
use Rattle.rows.proofs.Rows.{room_kept}
use Rattle.cycle.proofs.Layering.{reach_alive}
use Rattle.cycle.proofs.Starts.{start_found, no_start}
use Rattle.cycle.proofs.least_cycle_among.Goals as goal

pub write_cycle-requires : goal.write_cycle-requires
write_cycle-requires g c = let q = c.requires in
    let f = c.least_start.ensures.there _ c.in-Some.is in (
      search rules,
      record {
        has = record {
          has = record { matrix = q.has.matrix; row = q.has.row; low = q.has.low; room = room_kept c.least_start.auto.layers q.has.room };
          start = reach_alive f.reach;
        };
        back = record { steps = f.best; few = f.small; reach = f.reach };
        answer = q.answer;
      },
    )

pub returns-in-Some : goal.returns-in-Some
returns-in-Some g c = let w = c.write_cycle.ensures in
    found_cycle (start_found (c.least_start.ensures.there _ c.in-Some.is) w.few w.wrote.tail) (omega (arith, w.wrote.tail.long)) w.wrote.holds

pub returns-in-None : goal.returns-in-None
returns-in-None g c = found_no_cycle (no_start c.requires.has.low c.in-None.is c.least_start.ensures) refl

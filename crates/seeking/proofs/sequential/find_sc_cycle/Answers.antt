-- `sequential::find_sc_cycle` meets its contract: no record is SC, or the cycles of the steps are those of the rows.
use mathlib.Core.Path.{refl}
use native.Mathlib.Omega.{arith}
use Rattle.laws.proofs.Says.{said}
use Rattle.findings.proofs.Meant.{found_no_cycle}
use Rattle.seeking.proofs.Cycles.{cycle_found, sc_step_within}
use Rattle.seeking.proofs.Closing.{wb0_classes}
use Rattle.seeking.proofs.Stepping.{none_sc, sc_made}
use Rattle.seeking.proofs.sequential.find_sc_cycle.Goals as goal

pub returns-then-is_empty : goal.returns-then-is_empty
returns-then-is_empty g c = λ t g.
    found_no_cycle
    (none_sc g.known g.places g.orders c.sorted.ensures.holds
    (λ a o. said c.is_empty.ensures c.if-is_empty.true a (c.row.ensures.all a o))) refl

pub returns : goal.returns
returns g c = λ t g.
    let turned = c.turn_around.ensures t g.known g.parents g.syncs g.places in
    let closed = c.close_writes.ensures t g.known g.by_readers g.by_wb0 in
    let made =
    sc_made g.known g.places g.orders c.sorted.ensures.holds turned.0.holds g.by_hb turned.1.holds closed
    c.among.ensures in
    cycle_found (sc_step_within g.known) made.holds c.least_cycle.ensures

pub close_writes-requires : goal.close_writes-requires
close_writes-requires g c = let q = c.requires in
    let p = q.0 in (
      omega (arith, p.for_wb.width.most),
      (
        record {
          orders = p.orders;
          for_readers = p.for_readers;
          for_wb = p.for_wb;
          for_over = p.for_over;
          classes = wb0_classes q.2.1 p.for_writes p.for_wb0;
        },
        q.1,
      ),
    )

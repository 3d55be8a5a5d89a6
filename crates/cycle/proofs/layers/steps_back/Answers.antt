-- `layers::steps_back` meets its contract: up to e steps do not lead from s back to s.
use native.Mathlib.Omega.{arith}
use Rattle.std.proofs.Common.{rules}
use Rattle.laws.proofs.Says.{said, denied}
use Rattle.rows.proofs.Rows.{room_kept}
use Rattle.cycle.proofs.Layering.{met_more, none_more, back_found, back_past, back_empty}
use Rattle.cycle.proofs.layers.steps_back.Goals as goal

pub returns-then-has : goal.returns-then-has
returns-then-has g c = let i = c.loop-e.invariant in back_found i.1 i.3 c.loop-e-test.true (said c.has.ensures c.if-has.true)

pub returns-then-is_empty : goal.returns-then-is_empty
returns-then-is_empty g c = let i = c.loop-e.invariant in
    back_empty i.1 i.3 i.2 c.row.ensures (said c.is_empty.ensures c.if-is_empty.true)

pub next_layer-requires : goal.next_layer-requires
next_layer-requires g c = let i = c.loop-e.invariant in
    let has = c.requires.0.has in (
      search rules,
      (
        search rules,
        record {
          has = record { matrix = has.matrix; row = has.row; low = has.low; room = room_kept (omega arith) has.room };
          low = omega arith;
          seen = met_more i.1 i.2 c.row.ensures c.or-met.ensures;
          made = i.1;
        },
      ),
    )

pub loop-e-preserved : goal.loop-e-preserved
loop-e-preserved g c = let i = c.loop-e.invariant in
    (omega arith, c.next_layer.ensures, met_more i.1 i.2 c.row.ensures c.or-met.ensures, none_more i.1 i.3 (denied c.has.ensures c.if-has.false))

pub returns : goal.returns
returns g c = let i = c.loop-e.invariant in back_past i.1 i.3 c.loop-e-test.false

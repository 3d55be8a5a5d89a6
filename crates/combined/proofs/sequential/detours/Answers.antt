-- `sequential::detours` meets its contract: the first b rows are turned.
use native.Mathlib.Omega.{arith}
use Rattle.rows.proofs.Rows.{made_none, made_more, made_whole, made_row_is}
use Rattle.combined.proofs.sequential.detours.Goals as goal

pub loop-b-init : goal.loop-b-init
loop-b-init g c = made_none

pub loop-b-preserved : goal.loop-b-preserved
loop-b-preserved g c = made_more c.loop-b.invariant (made_row_is c.turn-turned.ensures c.put.ensures)

pub returns : goal.returns
returns g c = made_whole (omega arith) c.loop-b.invariant

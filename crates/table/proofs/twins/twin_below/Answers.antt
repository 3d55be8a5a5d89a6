-- `twins::twin_below` meets its contract: what was found is what a search below m finds.
use mathlib.Core.Path.{◌≡◌}
use native.Mathlib.Omega.{arith}
use Rattle.table.proofs.Search.{any_none, any_more}
use Rattle.table.proofs.Standing.{stands_one}
use Rattle.table.proofs.twins.twin_below.Goals as goal

pub loop-m-preserved : goal.loop-m-preserved
loop-m-preserved c = (any_more _ _ c.loop-m.invariant.0 c.is_twin-found.ensures, omega arith)

pub returns : goal.returns
returns c = let l = c.loop-m in
    let e : l.m ≡ c.args.n = omega arith in
    rw (← e) l.invariant.0

pub loop-m-init : goal.loop-m-init
loop-m-init c = (any_none _, omega arith)

pub is_twin-found-requires : goal.is_twin-found-requires
is_twin-found-requires c = stands_one c.requires _ (omega arith)

-- `Set::or` meets its contract: the first k words are put together, and the others stay.
use native.Mathlib.Omega.{arith}
use Rattle.std.proofs.Common.{rules}
use Rattle.rows.proofs.Sets.{is_or, merged_none, merged_more}
use Rattle.rows.proofs.set.Set.or.Goals as goal

pub loop-k-init : goal.loop-k-init
loop-k-init g c = merged_none (search rules)

pub loop-k-preserved : goal.loop-k-preserved
loop-k-preserved g c = merged_more (omega arith) c.loop-k.invariant

pub returns : goal.returns
returns g c = is_or (omega arith) c.loop-k.invariant

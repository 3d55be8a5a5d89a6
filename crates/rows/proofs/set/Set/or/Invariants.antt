-- `Set::or` meets its contract: the first k words are put together, and the others stay.
use lib.Bits.{bit_or}
use Rattle.rows.proofs.Sets.{Merged}
use Rattle.rows.proofs.set.Set.or.Given as goal

abbrev pub invariant-loop-k : goal.invariant-loop-k
invariant-loop-k g l = Merged bit_or l.initial.self l.y l.k l.self

-- `Set::and` meets its contract: the first k words are put together, and the others stay.
use lib.Bits.{bit_and}
use Rattle.rows.proofs.Sets.{Merged}
use Rattle.rows.proofs.set.Set.and.Given as goal

abbrev pub invariant-loop-k : goal.invariant-loop-k
invariant-loop-k g l = Merged bit_and l.initial.self l.y l.k l.self

-- `Set::without` meets its contract: the first k words are put together, and the others stay.
use Prim.Native.Nat.{◌-◌, ◌^◌}
use lib.Bits.{bit_and}
use Rattle.rows.proofs.Sets.{Merged}
use Rattle.rows.proofs.set.Set.without.Given as goal

abbrev pub invariant-loop-k : goal.invariant-loop-k
invariant-loop-k g l = Merged (λ u v. bit_and u (2 ^ 64 - 1 - v)) l.initial.self l.y l.k l.self

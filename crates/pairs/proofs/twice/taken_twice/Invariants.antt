-- `twice::taken_twice` meets its contract: no two of the numbers below q took from one source.
use Rattle.pairs.proofs.Seen.{SeenBelow}
use Rattle.pairs.proofs.twice.taken_twice.Given as goal

abbrev pub invariant-loop-q : goal.invariant-loop-q
invariant-loop-q l = SeenBelow l.kind l.source l.q l.seen

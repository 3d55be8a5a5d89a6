-- `twice::taken_twice` meets its contract: no two of the numbers below q took from one source.
use mathlib.Core.Bool.{◌&&◌}
use mathlib.Core.List.{List}
use Prim.Native.Nat.{ℕ}
use lib.Dec.{eqb, ltb}
use lib.ListN.{get_or}
use Rattle.laws.specs.Says.{Says}
use Rattle.laws.proofs.Says.{said, denied, says_and, says_eq, says_lt}
use Rattle.pairs.proofs.Seen.{Takes, seen_more, seen_same}
use Rattle.pairs.proofs.twice.taken_twice.Goals as goal
use Rattle.pairs.proofs.twice.taken_twice.Goals.{then-kind-q+else-has, else-kind-q}

says_takes : (kind source : List ℕ) (q : ℕ) → Says (eqb (get_or kind q 0) 3 && ltb (get_or source q 0) q) (Takes kind source q)
says_takes kind source q = says_and (says_eq (get_or kind q 0) 3) (says_lt (get_or source q 0) q)

pub loop-q-preserved : goal.loop-q-preserved
loop-q-preserved c = let asked = says_takes c.args.kind.now c.args.source.now c.loop-q.q in
    elim c.if-kind-q.branch [
      | then-kind-q+else-has w ↦ rw w.seen-is (seen_more c.loop-q.invariant (said asked w.if-kind-q.true) (denied w.has.ensures w.if-has.false) w.add.ensures)
      | else-kind-q w ↦ rw w.seen-is (seen_same c.loop-q.invariant (denied asked w.if-kind-q.false))
    ]

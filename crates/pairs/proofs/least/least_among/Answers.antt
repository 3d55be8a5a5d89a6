-- `least::least_among` meets its contract: the pairs before p, q are passed.
use mathlib.Core.List.{List}
use Prim.Native.Nat.{ℕ}
use native.Mathlib.Omega.{arith}
use Rattle.laws.proofs.Says.{said}
use Rattle.laws.proofs.Steps.{Within}
use Rattle.laws.proofs.Passed.{passed_all, passed_found}
use Rattle.findings.proofs.Meant.{found_pair, found_no_pair}
use Rattle.pairs.proofs.least.least_among.Invariants.{Pair}
use Rattle.pairs.proofs.least.least_among.Goals as goal

pairs_within : (w n : ℕ) (m : List (List ℕ)) → Within n (Pair w n m)
pairs_within w n m = record { left = λ z. z.0; right = λ z. z.1.row }

pub returns : goal.returns
returns g c = found_no_pair (passed_all (pairs_within _ _ _) c.loop-p-test.false c.loop-p.invariant)

pub returns-then-has-2 : goal.returns-then-has-2
returns-then-has-2 g c = found_pair
    (passed_found (omega arith, record { row = omega arith; on = said c.has-in-loop-q.ensures c.if-has-2.true }) c.loop-q.invariant)

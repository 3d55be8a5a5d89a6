-- `least::least_among` meets its contract: the pairs before p, q are passed.
use mathlib.Core.List.{List}
use Prim.Native.Nat.{ℕ, ◌<◌}
use Rattle.laws.proofs.Passed.{Passed}
use Rattle.rows.specs.Rows.{Cell}
use Rattle.pairs.proofs.least.least_among.Given as goal

abbrev pub Pair : ℕ → ℕ → List (List ℕ) → ℕ → ℕ → Type 0
Pair w n m p q = (p < n) × Cell w n m p q

abbrev pub invariant-loop-p : goal.invariant-loop-p
invariant-loop-p g l = Passed (Pair g.row.W l.n l.m) l.p 0

abbrev pub invariant-loop-q : goal.invariant-loop-q
invariant-loop-q g l = Passed (Pair g.row.W l.n l.m) l.p l.q

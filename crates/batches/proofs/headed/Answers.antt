-- `headed` meets its contract: the tests of the code are those of `headed`.
use Prim.Native.Nat.{◌+◌, ◌≤◌, ◌<◌}
use native.Mathlib.Omega.{arith}
use borrow.Author.Tests.{le-leb, lt-leb}
use Rattle.batches.proofs.headed.Goals as goal

pub returns-then-long-size : goal.returns-then-long-size
returns-then-long-size c = let a = c.args in
    simp (c.if-mark.true, le-leb _ _ (let h : a.at + 4 + a.len ≤ a.size = omega arith in h))

pub returns-then-mark : goal.returns-then-mark
returns-then-mark c = let a = c.args in
    simp (c.refused.ensures, c.if-mark.true, lt-leb _ _ (let h : a.size < a.at + 4 + a.len = omega arith in h))

pub returns : goal.returns
returns c = simp (c.refused-2.ensures, c.if-mark.false)

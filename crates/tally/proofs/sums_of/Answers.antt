-- `sums_of` meets its contract: each number is still as it was where one is added to it.
use mathlib.Core.Path.{ap, ap₂, ◌∙◌}
use mathlib.Core.List.{List}
use Prim.Native.Nat.{ℕ, ◌+◌}
use native.Mathlib.Numerals.{add-one}
use native.Mathlib.Omega.{arith}
use lib.ListN.{get_or, set}
use Rattle.tally.proofs.Adding.{added_here, added_next, added_all}
use Rattle.tally.proofs.sums_of.Goals as goal

pub overflow_add-sums : goal.overflow_add-sums
overflow_add-sums g c = let a = c.args in let i = c.loop-i.i in
    let here = ap (λ (l : List ℕ). get_or l i 0) c.loop-i.invariant ∙ added_here i a.mine a.more in
    omega (arith, here, c.requires.0.small i, c.requires.1.small i)

pub loop-i-preserved : goal.loop-i-preserved
loop-i-preserved g c = let a = c.args in let i = c.loop-i.i in
    let here = ap (λ (l : List ℕ). get_or l i 0) c.loop-i.invariant ∙ added_here i a.mine a.more in
    ap₂ (λ (l : List ℕ) (n : ℕ). set l i (n + get_or a.more i 0)) c.loop-i.invariant here
    ∙ rw add-one (added_next i a.mine a.more (omega arith) (omega arith))

pub returns : goal.returns
returns g c = c.loop-i.invariant ∙ added_all c.loop-i.i _ _ (omega arith)

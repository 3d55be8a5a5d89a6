-- `names_past` meets its contract: the numbers below n have been asked, and no other is named.
use mathlib.Core.Path.{◌≡◌, refl}
use Prim.Native.Nat.{◌*◌}
use native.Mathlib.Numerals.{add-one}
use native.Mathlib.Omega.{arith}
use Rattle.laws.specs.Says.{any_below}
use Rattle.laws.proofs.Says.{says_T, says_le, says_and, says_any}
use Rattle.selections.specs.Selection.{selection_size, named}
use Rattle.selections.proofs.Naming.{named_inside}
use Rattle.selections.proofs.names_past.Goals as goal

pub loop-n-init : goal.loop-n-init
unfolding any_below
loop-n-init c = (omega arith, refl)

pub loop-n-preserved : goal.loop-n-preserved
unfolding any_below
loop-n-preserved c = (omega arith, rw (add-one, c.loop-n.invariant.1, c.names.ensures))

pub returns : goal.returns
returns c = let s = c.args.selection.now in
    let from = c.args.from in
    let all : c.loop-n.n ≡ 8 * selection_size = omega arith in
    rw (rw all at c.loop-n.invariant.1)
    (says_any (λ i (_, is). omega (arith, named_inside s i is, c.requires)) (λ i _. says_and (says_le from i) (says_T (named s i))))

-- `completeness::link_kept` meets its contract: a column leads to b from one number at most.
use mathlib.Core.Path.{refl, subst}
use Prim.Native.Nat.{ℕ}
use native.Mathlib.Omega.{arith}
use lib.Dec.{T}
use Rattle.laws.proofs.Says.{says_yes, says_is, says_iff}
use Rattle.selections.specs.Selection.{named}
use Rattle.edit.proofs.completeness.link_kept.Goals as goal

pub returns-then-a-b : goal.returns-then-a-b
returns-then-a-b c = let s = c.args.selection.now in
    says_iff (λ k a x. subst (λ (i : ℕ). T (named s i)) x.is k) (λ all. all _ (record { is = refl; falls = c.if-a-b.true }))
    (says_is c.names.ensures)

pub returns-else-a-b : goal.returns-else-a-b
returns-else-a-b c = let later = c.if-a-b.false in says_yes (λ a x. absurd (omega (arith, later, x.is, x.falls)))

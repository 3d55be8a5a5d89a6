-- `whole::each_itself` meets its contract: each of the first b rows has its own number, and the others nothing.
use mathlib.Core.Path.{◌≡◌, refl, sym}
use mathlib.Core.Logic.{◌⊎◌, inl, inr}
use Prim.Native.Nat.{ℕ, ◌+◌}
use native.Mathlib.Omega.{arith}
use borrow.Author.Count.{below_more}
use Rattle.rows.proofs.Rows.{made_iff, made_trans}
use Rattle.rows.proofs.Noted.{noted}
use Rattle.rows.proofs.whole.each_itself.Invariants.{Own}
use Rattle.rows.proofs.whole.each_itself.Goals as goal

own_or_next : (k a b : ℕ) → Own (k + 1) a b → Own k a b ⊎ (a ≡ k)
own_or_next k a b z = below_more (λ x. a ≡ x → Own k a x ⊎ (a ≡ k)) k (λ x l e. inl (e, l)) inr b z.1 z.0

pub loop-b-init : goal.loop-b-init
loop-b-init g c = made_iff (λ a b l x. absurd x) (λ a b l z. absurd (omega (arith, z.1))) c.clear.ensures

pub loop-b-preserved : goal.loop-b-preserved
loop-b-preserved g c = let turn = c.loop-b in
    let b = turn.b in
    made_trans turn.invariant
    (noted (Own b) (Own (b + 1)) (λ a l z. (z.0, omega (arith, z.1))) (own_or_next b) turn.invariant.holds (omega arith) (refl, omega arith) (λ k z. sym z.0) c.add.ensures)

pub returns : goal.returns
returns g c = made_iff (λ a b l z. z.0) (λ a b l e. (e, omega arith)) c.loop-b.invariant

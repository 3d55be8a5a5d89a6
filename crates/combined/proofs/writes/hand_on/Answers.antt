-- `writes::hand_on` meets its contract: b itself, if it writes, and then its source, if it has one.
use mathlib.Core.Path.{◌≡◌, sym}
use mathlib.Core.Logic.{inl, inr, ⊎_elim, ⊎_map}
use Prim.Native.Nat.{◌≤◌}
use native.Mathlib.Omega.{arith}
use lib.ListN.{get_or}
use Rattle.rows.specs.Sets.{In}
use Rattle.combined.specs.Writes.{Handed}
use Rattle.combined.proofs.Handing.{owning, owned_by, handed_none, handed_iff, handed_more}
use Rattle.combined.proofs.writes.hand_on.Given.{Over}
use Rattle.combined.proofs.writes.hand_on.Goals as goal
use Rattle.combined.proofs.writes.hand_on.Goals.{Joined-kind-b-ge2, then-kind-b-ge2, else-kind-b-ge2}

first :
    (g : Over) (c : Joined-kind-b-ge2 g)
    → Handed g.row.W c.args.n c.args.b (λ o. (2 ≤ get_or c.args.kind.now c.args.b 0) × (o ≡ c.args.b)) (In c.args.«set».now) c.args.owners.now c.args.out.now
    c.if-kind-b-ge2.owners c.if-kind-b-ge2.out
first g c =
    elim c.if-kind-b-ge2.branch [
      | then-kind-b-ge2 y ↦
          rw (y.owners-is, y.out-is)
          (handed_iff (λ o. ⊎_elim (λ z. absurd z) (λ e. (y.if-kind-b-ge2.true, e))) (λ o z. inr z.1)
          (handed_more c.requires.none c.requires.columns.0 handed_none y.add.ensures y.take_others.ensures))
      | else-kind-b-ge2 y ↦ rw (y.owners-is, y.out-is) (handed_iff (λ o z. absurd z) (λ o z. omega (arith, y.if-kind-b-ge2.false, z.0)) handed_none)
    ]

pub returns-then-s-b : goal.returns-then-s-b
returns-then-s-b g c = let leads = c.if-s-b.true in
    handed_iff (λ o z. owning (⊎_map (λ h. h) (λ e. record { is = sym e; falls = omega (arith, leads, e) }) z))
    (λ o z. ⊎_map (λ h. h) (λ l. sym l.is) (owned_by z))
    (handed_more c.requires.none (omega arith) (first g (goal.at.returns-then-s-b g c).Joined-kind-b-ge2) c.add-then-s-b.ensures c.take_others-then-s-b.ensures)

pub returns-else-s-b : goal.returns-else-s-b
returns-else-s-b g c = handed_iff (λ o z. owning (inl z)) (λ o z. ⊎_elim (λ h. h) (λ l. omega (arith, c.if-s-b.false, l.is, l.falls)) (owned_by z)) (first g (goal.at.returns-else-s-b g c).Joined-kind-b-ge2)

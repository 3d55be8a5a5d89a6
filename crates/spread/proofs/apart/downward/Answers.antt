-- `apart::downward` meets its contract: the numbers from b on have handed up what stands under them.
use mathlib.Core.Path.{◌≡◌}
use Prim.Native.Nat.{◌+◌, ◌-◌}
use native.Mathlib.Omega.{arith}
use Rattle.rows.proofs.Rows.{made_iff, made_trans}
use Rattle.spread.proofs.Arms.{under_none, all_under, under_all, arms_none, arms_all}
use Rattle.spread.proofs.apart.downward.Goals as goal

pub loop-b-init : goal.loop-b-init
loop-b-init g c = record {
  under = made_iff (λ a p l z. absurd z) (λ a p l. under_none (omega arith)) c.clear.ensures;
  under_arms = made_iff (λ a p l z. absurd z) (λ a p l. arms_none (omega arith)) c.clear-2.ensures;
}

pub down_row-requires : goal.down_row-requires
down_row-requires g c = let e : c.loop-b.b ≡ c.loop-b.b - 1 + 1 = omega arith in
    let turn = rw e at c.loop-b.invariant in
    (omega arith, (omega arith, (omega arith, (omega arith, (turn.under.holds, turn.under_arms.holds)))))

pub loop-b-preserved : goal.loop-b-preserved
loop-b-preserved g c = let turn = c.loop-b.invariant in
    record { under = made_trans turn.under c.down_row.ensures.under; under_arms = made_trans turn.under_arms c.down_row.ensures.under_arms }

pub returns : goal.returns
returns g c = let e : c.loop-b.b ≡ 0 = omega arith in
    let turn = rw e at c.loop-b.invariant in record {
      under = made_iff (λ a p l. all_under) (λ a p l. under_all) turn.under;
      under_arms = made_iff (λ a p l f. f.among) (λ a p l. arms_all) turn.under_arms;
    }

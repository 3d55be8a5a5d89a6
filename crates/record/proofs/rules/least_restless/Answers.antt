-- `rules::least_restless` meets its contract: every byte before i rests where it should, so that the least is looked for from i on.
use mathlib.Core.Path.{◌≡◌, refl, sym, ap, ◌∙◌}
use mathlib.Core.Bool.{Bool, true, false}
use Prim.Native.Nat.{ℕ, suc, ◌+◌, ◌-◌, ◌<◌}
use native.Mathlib.Omega.{arith}
use Rattle.record.specs.Form.{pick, least_failing, rests_at, least_restless}
use Rattle.record.proofs.rules.least_restless.Goals as goal

-- one byte more is asked
module _ (f : ℕ → Bool) (i : ℕ) (inside : i < 16) where
  asked : least_failing f i (16 - i) ≡ pick (f i) (least_failing f (suc i) (15 - i)) i
  asked =
      let more : 16 - i ≡ suc (15 - i) = omega arith in
      ap (least_failing f i) more

  passed : f i ≡ true → least_failing f i (16 - i) ≡ least_failing f (i + 1) (16 - (i + 1))
  passed e =
      let next : suc i ≡ i + 1 = omega arith in
      let left : 15 - i ≡ 16 - (i + 1) = omega arith in
      asked ∙ rw (e, next, left) refl

  failed : f i ≡ false → least_failing f i (16 - i) ≡ i
  failed e = asked ∙ rw e refl

pub loop-i-init : goal.loop-i-init
unfolding least_restless
loop-i-init c = record { from = omega arith; to = omega arith; same = refl }

pub returns-then-not-rests : goal.returns-then-not-rests
returns-then-not-rests c = let b = c.args.b.now in
    sym (c.loop-i.invariant.same ∙ failed (rests_at b) c.loop-i.i (omega arith) (sym c.rests.ensures ∙ c.if-not-rests.true))

pub loop-i-preserved : goal.loop-i-preserved
loop-i-preserved c = let b = c.args.b.now in
    let rests = sym c.rests.ensures ∙ c.if-not-rests.false in
    record { from = omega arith; to = omega arith; same = c.loop-i.invariant.same ∙ passed (rests_at b) c.loop-i.i (omega arith) rests }

pub returns : goal.returns
returns c = let l = c.loop-i in
    let all : l.i ≡ 16 = omega arith in
    sym (rw all at l.invariant.same)

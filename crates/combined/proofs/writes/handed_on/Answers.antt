-- `writes::handed_on` meets its contract: the first b rows of owners are made, and what the numbers below b have to hand on is handed on.
use mathlib.Core.Path.{◌≡◌}
use mathlib.Core.Logic.{inl, inr, ⊎_elim}
use native.Mathlib.Omega.{arith}
use Rattle.rows.proofs.Sets.{is_iff, both_of}
use Rattle.rows.proofs.Rows.{made_none, made_more, made_row_is, made_row_iff, made_row_trans, made_iff, made_trans}
use Rattle.rows.proofs.Steps.{either_rises, then_held, then_star, star_then, star_step, step_star}
use Rattle.combined.proofs.Handing.{taking_handed, handed_taking}
use Rattle.combined.proofs.writes.handed_on.Goals as goal

pub loop-b-init : goal.loop-b-init
loop-b-init g c = record { owned = made_none; handed = made_iff (λ a o _ x. absurd x) (λ a o _ h. omega (arith, h.low)) c.clear.ensures }

pub loop-b-preserved : goal.loop-b-preserved
loop-b-preserved g c = let inv = c.loop-b.invariant in
    let before = made_row_is (then_held (λ v. either_rises) inv.owned.holds c.from_either-before.ensures) c.put.ensures in
    let led = is_iff before.only before.all c.row.ensures in
    let set = both_of (is_iff (λ a. star_step) (λ a. step_star) led) c.row-in-loop-b.ensures c.and-handed.ensures in
    let handed = c.hand_on.ensures in record {
      owned =
          made_more inv.owned
          (made_row_trans before
          (made_row_iff (λ o. ⊎_elim (λ y. then_star (inr (before.only o y))) (λ p. then_star (inl p)))
          (λ o t. ⊎_elim inr (λ y. inl (before.all o y)) (star_then t)) handed.owned));
      handed =
          made_trans inv.handed
          (made_iff (λ a o l. taking_handed inv.handed.holds set l) (λ a o l. handed_taking inv.handed.holds set l) handed.taken);
    }

pub returns : goal.returns
returns g c = let e : c.loop-b.b ≡ c.args.n = omega arith in
    let made = rw e at c.loop-b.invariant in
    (made.owned, made.handed)

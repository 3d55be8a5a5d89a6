-- `onward::add_led` meets its contract: the column's number is lower and the row takes it in, or it leads nowhere.
use mathlib.Core.Path.{sym}
use mathlib.Core.Logic.{inl, ⊎_map, ⊎_elim}
use native.Mathlib.Omega.{arith}
use Rattle.rows.proofs.Parts.{outside_none}
use Rattle.rows.proofs.Rows.{made_row_iff}
use Rattle.spread.proofs.onward.add_led.Goals as goal

pub returns-then-v-b : goal.returns-then-v-b
returns-then-v-b g c = let falls = c.if-v-b.true in
    made_row_iff (λ a. ⊎_map (λ o. o) (λ e. record { is = sym e; falls = omega (arith, e, falls) })) (λ a. ⊎_map (λ o. o) (λ l. sym l.is)) c.add.ensures

pub returns-else-v-b : goal.returns-else-v-b
returns-else-v-b g c = let later = c.if-v-b.false in
    record { rest = outside_none; all = λ a. ⊎_elim (λ o. o) (λ l. absurd (omega (arith, later, l.is, l.falls))); only = λ a. inl }

-- The cycles of a relation are those of the rows that hold it.
use mathlib.Core.Path.{sym, subst}
use mathlib.Core.List.{List}
use Prim.Native.Nat.{ℕ}
use Rattle.laws.specs.Steps.{Rel, IsCycle}
use Rattle.laws.specs.Witness.{CycleWith}
use Rattle.laws.proofs.Steps.{Within}
use Rattle.findings.specs.declared.Found.{Found}
use Rattle.findings.specs.Meant.{FindsIn}
use Rattle.findings.proofs.Meant.{finds_cycle_iff}
use Rattle.rows.specs.Rows.{Holds, Cell}
use Rattle.model.specs.Table.{Table}
use Rattle.model.specs.Relations.{Wb0, ScStep}
use Rattle.model.proofs.Within as within
use Rattle.columns.specs.Columns.{Known}

pub cycle_found :
    {w n : ℕ} {R : Rel} {m : List (List ℕ)} {before after : List ℕ} {r : Found} → Within n R → Holds w n R m → FindsIn (CycleWith (IsCycle (Cell w n m))) before after r
    → FindsIn (CycleWith (IsCycle R)) before after r
cycle_found low held = finds_cycle_iff (λ a b c. held.only a b c.row c.on) (λ a b s. record { row = low.right s; on = held.all a b (low.right s) s })

module _ {t : Table} {n : ℕ} (k : Known t n) where
  within_known : {R : Rel} → Within t.count R → Within n R
  within_known {R} = subst (λ (c : ℕ). Within c R) (sym k.all)

  pub wb0_within : Within n (Wb0 t)
  wb0_within = within_known (within.wb0_within k.formed)

  pub sc_step_within : Within n (ScStep t)
  sc_step_within = within_known (within.sc_step_within k.formed)

-- `closed` meets its contract: no table stands there, by what it requires.
use mathlib.Core.Path.{◌≡◌, refl, sym, ap, ◌∙◌}
use mathlib.Core.Bool.{true, false}
use Prim.Native.Nat.{ℕ}
use native.Mathlib.Omega.{arith}
use Rattle.batches.specs.declared.Item.{Item}
use Rattle.batches.specs.Batch.{standing}
use Rattle.batches.specs.Reading.{is_table}
use Rattle.monday.proofs.closed.Goals as goal

pub returns-in-Ended : goal.returns-in-Ended
returns-in-Ended c = (refl, sym (ap standing c.in-Ended.is))

pub returns-in-Table : goal.returns-in-Table
returns-in-Table c = let both : true ≡ false = sym (ap (λ (x : Item). is_table (standing x)) c.in-Table.is) ∙ c.requires in
    absurd (let z : ◌≡◌ {A = ℕ} 0 1 = cc in omega arith)

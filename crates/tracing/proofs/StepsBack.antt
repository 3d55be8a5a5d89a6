-- An entry of wb0 says what is wb.
use mathlib.Core.Path.{◌≡◌}
use mathlib.Core.Bool.{not}
use mathlib.Core.List.{List}
use Prim.Native.Nat.{ℕ, ◌<◌}
use native.Mathlib.Omega.{arith}
use lib.Dec.{eqb}
use Rattle.laws.specs.Says.{Says}
use Rattle.laws.proofs.Says.{says_eq, says_not, says_iff}
use Rattle.laws.proofs.Walks.{walk_plus}
use Rattle.model.specs.Relations.{Wb0, Wb}
use Rattle.model.proofs.Within.{wb0_within}
use Rattle.table.specs.Events.{events_of}
use Rattle.facts.specs.Sound.{Counted}
use Rattle.facts.proofs.Records.{formed, within_count, few}
use Rattle.tracing.specs.Layers.{entry, StepsTo}
use Rattle.tracing.proofs.Shorter.{shorter}

module _ {bytes : List ℕ} {n : ℕ} (counted : Counted bytes n) {a b : ℕ} {d : List ℕ} (row : StepsTo (Wb0 (events_of bytes)) n b d) where
  -- an entry says that there are steps
  entry_wb : a < n → ¬ (entry d a ≡ 255) → Wb (events_of bytes) a b
  entry_wb l ne =
      let z = row.sound a l (omega (arith, ne, row.low a l)) in
      walk_plus (Wb0 (events_of bytes)) a z.by b z.walk

  no_entry_no_wb : entry d a ≡ 255 → ¬ Wb (events_of bytes) a b
  no_entry_no_wb e w =
      let z = shorter (within_count counted (wb0_within (formed counted))) w in
      omega (arith, row.complete a z.by z.walk, z.few, few counted)

  pub says_wb : a < n → Says (not (eqb (entry d a) 255)) (Wb (events_of bytes) a b)
  says_wb l = says_iff (entry_wb l) (λ w e. no_entry_no_wb e w) (says_not (says_eq (entry d a) 255))

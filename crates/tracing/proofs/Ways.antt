-- hb goes by the records of a sound table alone.
use mathlib.Core.List.{List}
use Prim.Native.Nat.{ℕ}
use Rattle.laws.proofs.Steps.{Within}
use Rattle.model.specs.Relations.{Hb}
use Rattle.model.proofs.Within.{hb_within}
use Rattle.table.specs.Events.{events_of}
use Rattle.facts.specs.Sound.{Counted}
use Rattle.facts.proofs.Records.{formed, within_count}

pub hb_low : {bytes : List ℕ} {n : ℕ} → Counted bytes n → Within n (Hb (events_of bytes))
hb_low counted = within_count counted (hb_within (formed counted))

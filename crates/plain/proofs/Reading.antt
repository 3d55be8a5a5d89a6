-- Only records are sought where a read is to be justified.
use mathlib.Core.List.{List}
use Prim.Native.Nat.{ℕ, ◌<◌}
use Rattle.model.specs.Relations.{EarlierRace, WriteBefore}
use Rattle.model.proofs.Within.{hb_within, race_within}
use Rattle.table.specs.Events.{events_of}
use Rattle.facts.specs.Sound.{Counted}
use Rattle.facts.proofs.Records.{formed, within_count}

module _ {bytes : List ℕ} {n : ℕ} (counted : Counted bytes n) {r : ℕ} where
  pub race_low : (w : ℕ) → EarlierRace (events_of bytes) w r → w < n
  race_low w z = (within_count counted (race_within (formed counted))).left z.race

  pub write_low : (w : ℕ) → WriteBefore (events_of bytes) w r → w < n
  write_low w z = (within_count counted (hb_within (formed counted))).left z.before

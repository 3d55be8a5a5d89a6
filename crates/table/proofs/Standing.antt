-- What is known of records that stand in a table.
use mathlib.Core.Path.{◌≡◌}
use mathlib.Core.List.{List}
use Prim.Native.Nat.{ℕ, ◌<◌}
use native.Mathlib.Omega.{arith}
use Rattle.record.specs.Form.{record_from, part}
use Rattle.record.proofs.RoundTrip.{passed}
use Rattle.table.specs.Events.{events_of}
use Rattle.table.specs.Standing.{Stands, AllStand}
use Rattle.table.specs.Test.{Decodes}
use Rattle.table.proofs.Exact.{decoded_at}

-- a record that is read has its fields by bytes
pub part_record : (b : List ℕ) (n : ℕ) → Decodes b n → record_from (part b n) ≡ (events_of b).at n
part_record b n d = (passed (part b n) ((events_of b).at n) (decoded_at b n d)).same

pub stands_one : {b : List ℕ} {n : ℕ} → AllStand b n → (m : ℕ) → m < n → Stands b m
stands_one all m h = record { held = omega (arith, all.held); decodes = all.decodes m h }

-- The edges that documents 01 and 02 name, as facts of the definitions.
use Rattle.std.specs.Prelude.{None, Some, Err, Ok}
use mathlib.Core.Path.{◌≡◌, refl}
use mathlib.Core.List.{[], ◌∷◌}
use Prim.Native.Nat.{ℕ}
use lib.Dec.{T}
use Rattle.events.specs.declared.Order.TheVariants.{Rel}
use Rattle.events.specs.declared.Value.TheVariants.{Known}
use Rattle.events.specs.declared.Event.TheVariants.{Store}
use Rattle.events.specs.declared.Record.{Record}
use Rattle.refusals.specs.declared.Fault.TheVariants.{Thread, Location}
use Rattle.record.specs.Form.{in_row, order_from, link_from, value_from, event_from, decided_by, decode, encode}
use Rattle.model.specs.Table.{listed}
use Rattle.model.specs.Examples.{E2}
use Rattle.table.specs.Test.{length_ok}

-- "Raise the limit to 200 records, 3,200 bytes": 3,200 bytes pass test 1 and 3,216 don't
pub bytes_3200 : T (length_ok 3200)
bytes_3200 = tt

pub bytes_3216 : ¬ T (length_ok 3216)
bytes_3216 x = x

pub bytes_0 : ¬ T (length_ok 0)
bytes_0 x = x

pub bytes_17 : ¬ T (length_ok 17)
bytes_17 x = x

-- "thread 15 and location 31 pass test 5, 16 and 32 don't"
abbrev store : ℕ → ℕ → Record
store thread location =
    record { thread = thread; parent = Some 0; source = None; event = Store Rel location (Known 1) }

pub thread_15_location_31 : decode (encode (store 15 31)) ≡ Ok (store 15 31)
unfolding in_row order_from link_from value_from event_from decided_by decode encode
thread_15_location_31 = refl

pub thread_16 : decode (encode (store 16 31)) ≡ Err Thread
unfolding in_row order_from link_from value_from event_from decided_by decode encode
thread_16 = refl

pub location_32 : decode (encode (store 15 32)) ≡ Err Location
unfolding in_row order_from link_from value_from event_from decided_by decode encode
location_32 = refl

-- "Record 4 of E2 is 45 56 01 01 00 01 03 00 00 00 01 00 00 00 00 00."
pub record_4_of_E2 :
    encode ((listed E2.table).at 4) ≡ 0x45 ∷ 0x56 ∷ 0x01 ∷ 0x01 ∷ 0x00 ∷ 0x01 ∷ 0x03 ∷ 0x00 ∷ 0x00 ∷ 0x00 ∷ 0x01 ∷ 0x00 ∷ 0x00 ∷ 0x00 ∷ 0x00 ∷ 0x00 ∷ []
unfolding encode
record_4_of_E2 = refl

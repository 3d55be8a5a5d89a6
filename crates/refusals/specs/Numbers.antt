-- The number and the place of each refusal, document 01's and those of a batch, and the byte that a record's refusal names.
use Rattle.std.specs.Prelude.{ℕ, None, Some}
use Rattle.refusals.specs.declared.Fault.{Fault}
use Rattle.refusals.specs.declared.Fault.TheVariants.{Mark, Kind, Order, Rest, Thread, Location, Parent, Source, Twin}
use Rattle.refusals.specs.declared.Told.{Told}
use Rattle.refusals.specs.declared.Refusal.{Refusal}
use Rattle.refusals.specs.declared.Refusal.TheVariants as refusal

-- the rows 2 to 8 of the table of refusal numbers
abbrev pub fault_number : Fault → ℕ
fault_number Mark = 2
fault_number Kind = 3
fault_number Order = 3
fault_number (Rest i) = 4
fault_number Thread = 5
fault_number Location = 5
fault_number Parent = 6
fault_number Source = 7
fault_number Twin = 8

-- "A record's refusal should name the byte too": within the record
abbrev pub fault_byte : Fault → ℕ
-- "for 2 byte 0"
fault_byte Mark = 0
-- "for 3 byte 2 if the kind is above 3, else 3"
fault_byte Kind = 2
fault_byte Order = 3
-- "for 4 the least byte at fault"
fault_byte (Rest i) = i
-- "for 5 byte 4 if the thread is at fault, else 7"
fault_byte Thread = 4
fault_byte Location = 7
-- "for 6 and 8 byte 5; for 7 byte 6"
fault_byte Parent = 5
fault_byte Source = 6
fault_byte Twin = 5

-- number and place as one value: "refused 1 at 0". "Refusals from elsewhere in document 01 and 14, 15 name no byte."
abbrev pub at : ℕ → ℕ → Told
at number place = record { number = number; place = place; byte = None }

-- and with a record's byte: "refused 4 at 17 byte 9"
abbrev pub of_record : Fault → ℕ → Told
of_record f n = record { number = fault_number f; place = n; byte = Some (fault_byte f) }

-- all the rows of the table of refusal numbers. "Its place is the record number; for 1, 9, 11, 12 it is 0, for 10 the least such kept
-- record, for 13 the number asked for."
abbrev pub told : Refusal → Told
told refusal.Length = at 1 0
told (refusal.Record f n) = of_record f n
told refusal.Selection = at 9 0
told (refusal.Incomplete n) = at 10 n
told refusal.Room = at 11 0
told refusal.Full = at 12 0
told (refusal.Past n) = at 13 n
-- "at the byte where a header begins": "14 for a wrong batch mark", 15 where the batch ends too early
told (refusal.Header n) = at 14 n
told (refusal.Short n) = at 15 n

-- A table that is not refused is a well-formed table of the model.
use Rattle.std.specs.Prelude.{Ok}
use mathlib.Core.Path.{◌≡◌, refl, sym, ap, ◌∙◌}
use mathlib.Core.List.{List, []}
use Prim.Native.Nat.{ℕ, ◌%◌, ◌<◌}
use native.Mathlib.Omega.{arith}
use lib.Dec.{T}
use lib.ListN.{length}
use Rattle.record.specs.Form.{decided_by, decode, part}
use Rattle.record.proofs.RoundTrip.{only_reads}
use Rattle.record.proofs.Parts.{part_past}
use Rattle.model.specs.Table.{Ends, inert}
use Rattle.model.specs.WellFormed.{WellFormed, Sound}
use Rattle.table.specs.Events.{count_of, record_of, events_of}
use Rattle.table.specs.Test.{length_ok, Passes, RecordsAnswer, sound, TestAnswer, records}
use Rattle.table.proofs.Exact.{decoded_at}
use Rattle.table.proofs.Front.{right_length}

-- what a sound table promises
pub record AllPass (b : List ℕ) (n : ℕ) : Type 0 where
  pub count : n ≡ count_of b
  pub each : (m : ℕ) → m < count_of b → Passes b m

pub records_pass : (b : List ℕ) (n : ℕ) → RecordsAnswer b (Ok n) → AllPass b n
records_pass b n (sound all) = record { count = refl; each = all }

pub test_pass : (b : List ℕ) (n : ℕ) → TestAnswer b (Ok n) → T (length_ok (length b)) × AllPass b n
test_pass b n (records right x) = (right, records_pass b n x)

-- no bytes are no record
nothing : record_of (decode []) ≡ inert
unfolding decode decided_by
nothing = refl

pub events_end : (b : List ℕ) → length b % 16 ≡ 0 → Ends (events_of b)
unfolding events_of
events_end b whole =
    record { past = λ n h. ap (λ (p : List ℕ). record_of (decode p)) (part_past b n (omega arith)) ∙ nothing }

sound_at : (b : List ℕ) (n : ℕ) → Passes b n → Sound (events_of b) n
sound_at b n p = record {
  not_6 = p.not_6;
  not_7 = p.not_7;
  not_8 = p.not_8;
  only_reads = only_reads (part b n) ((events_of b).at n) (decoded_at b n p.decodes);
}

pub passes_well_formed :
    (b : List ℕ) → 0 < count_of b → length b % 16 ≡ 0 → ((n : ℕ) → n < count_of b → Passes b n) → WellFormed (events_of b)
unfolding events_of
passes_well_formed b some whole all =
    record { some_record = some; sound = λ n h. sound_at b n (all n h); ends = events_end b whole }

pub sound_well_formed : (b : List ℕ) (n : ℕ) → TestAnswer b (Ok n) → WellFormed (events_of b)
sound_well_formed b n x =
    let (ok, all) = test_pass b n x in
    let right = right_length (length b) ok in
    passes_well_formed b (omega arith) right.whole_records all.each

pub sound_count : (b : List ℕ) (n : ℕ) → TestAnswer b (Ok n) → (events_of b).count ≡ n
unfolding events_of
sound_count b n x = sym (test_pass b n x).1.count

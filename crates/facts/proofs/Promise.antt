-- A table that the test lets pass is sound, and has as many records as the test says.
use Rattle.std.specs.Prelude.{Ok}
use mathlib.Core.Path.{sym}
use mathlib.Core.List.{List}
use Prim.Native.Nat.{ℕ}
use native.Mathlib.Omega.{arith}
use lib.ListN.{length}
use Rattle.table.specs.Test.{TestAnswer}
use Rattle.table.proofs.Exact.{decoded_at}
use Rattle.table.proofs.Front.{right_length}
use Rattle.table.proofs.WellFormed.{test_pass, sound_well_formed, sound_count}
use Rattle.facts.specs.Sound.{SoundTable, Counted}

pub sound_table : (b : List ℕ) (n : ℕ) → TestAnswer b (Ok n) → SoundTable b
sound_table b n x =
    let (ok, all) = test_pass b n x in
    let right = right_length (length b) ok in
    let count = sound_count b n x in
    let is = all.count in
    record {
      formed = sound_well_formed b n x;
      few = omega (arith, right.within);
      size = omega (arith, right.whole_records);
      decodes = λ m h. decoded_at b m (all.each m (omega arith)).decodes;
    }

pub counted : (b : List ℕ) (n : ℕ) → TestAnswer b (Ok n) → Counted b n
counted b n x = record { sound = sound_table b n x; all = sym (sound_count b n x) }

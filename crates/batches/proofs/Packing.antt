-- A batch of given tables holds these tables, and ends cleanly.
use mathlib.Core.Path.{◌≡◌, refl, ap, subst, ◌∙◌}
use mathlib.Core.List.{List, [], ◌∷◌}
use Prim.Native.Nat.{ℕ, ◌+◌, ◌-◌, ◌≤◌}
use native.Mathlib.Omega.{arith}
use lib.ListN.{length, take, length-append}
use lib.Seq.{take-length}
use Rattle.batches.specs.Batch.{most, length_at, cleanly, table, end, stands_at, part, HoldsFrom, no_more, one_more, Holds}
use Rattle.batches.specs.Packed.{packed_one, packed}
use Rattle.batches.proofs.Standing.{no_byte, a_table, stands_is}
use Rattle.batches.proofs.Joined.{joined}

module _ (t : List ℕ) (within : length (packed_one t) ≤ most) where
  said : length_at (packed_one t) 0 ≡ length t
  said = omega arith

  -- the end of the table is the end of the batch
  stop : ℕ
  stop = 0 + 4 + length_at (packed_one t) 0

  there : stands_at (packed_one t) 0 ≡ table (0 + 4) stop
  unfolding stop
  there = stands_is (a_table within (omega arith) refl (omega (arith, said)))

  over : stands_at (packed_one t) stop ≡ end cleanly
  unfolding stop
  over = stands_is (no_byte within (omega (arith, said)))

  whole : part (packed_one t) (0 + 4) stop ≡ t
  unfolding stop
  whole = ap (λ (n : ℕ). take n t) long ∙ take-length t
    where
      long : 0 + 4 + length_at (packed_one t) 0 - (0 + 4) ≡ length t
      long = omega (arith, said)

  one_packed : Holds (packed_one t) (t ∷ []) cleanly
  one_packed = record { all = subst (λ (x : List ℕ). HoldsFrom (packed_one t) 0 (x ∷ []) cleanly) whole (one_more there (no_more over)) }

pub packed_holds : (tables : List (List ℕ)) → length (packed tables) ≤ most → Holds (packed tables) tables cleanly
packed_holds [] h = record { all = no_more {place = 0} (stands_is (no_byte h (omega arith))) }
packed_holds (t ∷ ts) h =
    let long = length-append (packed_one t) (packed ts) in
    joined (packed_one t) (packed ts) h (one_packed t (omega arith)) (packed_holds ts (omega arith))

-- The edges that document 02 names, as facts of the definitions.
use mathlib.Core.Path.{◌≡◌, refl}
use mathlib.Core.List.{List, [], ◌∷◌, ◌++◌}
use Prim.Native.Nat.{ℕ}
use native.Mathlib.Omega.{arith}
use lib.Dec.{T}
use lib.ListN.{length, replicate}
use Rattle.selections.specs.Selection.{selection_size, named}
use Rattle.selections.proofs.Naming.{named_inside}

-- "A selection is now 25 bytes"
pub bytes_25 : selection_size ≡ 25
bytes_25 = refl

-- record 199 is the bit that weighs 128 of the last byte, and can be selected
pub record_199 : T (named (replicate 24 0 ++ 128 ∷ []) 199)
record_199 = tt

-- 200 can't be said
pub no_record_200 : (s : List ℕ) → length s ≡ selection_size → ¬ T (named s 200)
no_record_200 s size is = absurd (omega (arith, named_inside s 200 is))

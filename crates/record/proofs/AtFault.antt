-- The bytes at fault where test 4 fails, and the least of them.
use Rattle.std.specs.Prelude.{Some}
use mathlib.Core.Path.{◌≡◌}
use mathlib.Core.Bool.{false}
use mathlib.Core.List.{List}
use Prim.Native.Nat.{ℕ, ◌<◌, ◌≤◌}
use native.Mathlib.Omega.{arith}
use native.Mathlib.Decide.{dec_lt}
use lib.Dec.{T}
use Rattle.laws.specs.Least.{Least, LeastNumber}
use Rattle.record.specs.Form.{rests_at, rested, least_restless}
use Rattle.record.specs.Refused.{AtFault, byte_6, byte_7, byte_8, byte_9, byte_10, byte_11, byte_12, byte_13, byte_14, byte_15}
use Rattle.record.proofs.Cases.{six_to_fifteen}
use Rattle.record.proofs.Resting.{least_first, some_restless}
use Rattle.record.proofs.Tests.{zero_at, source_rests, location_rests, flags_rest_lem, read_rests, written_rests}

module _ (b : List ℕ) where
  -- a byte that does not pass is at fault
  fault_at : (i : ℕ) → 6 ≤ i → i < 16 → ¬ T (rests_at b i) → AtFault b i
  fault_at =
      six_to_fifteen (λ (i : ℕ). ¬ T (rests_at b i) → AtFault b i)
      (λ n. byte_6 (λ r. n ((source_rests b).from r)))
      (λ n. byte_7 (λ r. n ((location_rests b).from r)))
      (λ n. byte_8 (λ r. n ((flags_rest_lem b).from r)))
      (λ n. byte_9 (λ r. n ((zero_at b 9).from r)))
      (λ n. byte_10 (λ r. n ((read_rests b 10).from r)))
      (λ n. byte_11 (λ r. n ((read_rests b 11).from r)))
      (λ n. byte_12 (λ r. n ((written_rests b 12).from r)))
      (λ n. byte_13 (λ r. n ((written_rests b 13).from r)))
      (λ n. byte_14 (λ r. n ((zero_at b 14).from r)))
      (λ n. byte_15 (λ r. n ((zero_at b 15).from r)))

  -- and no other is
  pub record Restless (i : ℕ) : Type 0 where
    pub from : 6 ≤ i
    pub to : i < 16
    pub fails : ¬ T (rests_at b i)

  pub restless : {i : ℕ} → AtFault b i → Restless i
  restless (byte_6 n) = record { from = omega arith; to = omega arith; fails = λ t. n ((source_rests b).to t) }
  restless (byte_7 n) = record { from = omega arith; to = omega arith; fails = λ t. n ((location_rests b).to t) }
  restless (byte_8 n) = record { from = omega arith; to = omega arith; fails = λ t. n ((flags_rest_lem b).to t) }
  restless (byte_9 n) = record { from = omega arith; to = omega arith; fails = λ t. n ((zero_at b 9).to t) }
  restless (byte_10 n) = record { from = omega arith; to = omega arith; fails = λ t. n ((read_rests b 10).to t) }
  restless (byte_11 n) = record { from = omega arith; to = omega arith; fails = λ t. n ((read_rests b 11).to t) }
  restless (byte_12 n) = record { from = omega arith; to = omega arith; fails = λ t. n ((written_rests b 12).to t) }
  restless (byte_13 n) = record { from = omega arith; to = omega arith; fails = λ t. n ((written_rests b 13).to t) }
  restless (byte_14 n) = record { from = omega arith; to = omega arith; fails = λ t. n ((zero_at b 14).to t) }
  restless (byte_15 n) = record { from = omega arith; to = omega arith; fails = λ t. n ((zero_at b 15).to t) }

  -- the search finds the least
  pub least_at_fault : rested b ≡ false → LeastNumber (AtFault b) (Some (least_restless b))
  least_at_fault e =
      let i = least_restless b in
      let first = least_first b in
      let inside = some_restless b e in
      Least.least {a = i} (fault_at i first.from inside (first.there inside)) (λ j f. at_most j f (dec_lt j i))
    where
      at_most : (j : ℕ) → AtFault b j → Dec (j < least_restless b) → least_restless b ≤ j
      at_most j f (yes l) = absurd ((restless f).fails ((least_first b).before j (restless f).from l))
      at_most j f (no l) = omega arith

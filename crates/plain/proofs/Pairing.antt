-- What is found of a finding that pairs show.
use mathlib.Core.Path.{refl}
use mathlib.Core.Bool.{Bool, true, false}
use Prim.Native.Nat.{ℕ, ◌<◌}
use native.Mathlib.Omega.{arith}
use Rattle.laws.specs.Says.{Says}
use Rattle.laws.specs.Least.{Least}
use Rattle.laws.specs.Witness.{a_pair, PairWith, pair_with}
use Rattle.laws.proofs.Says.{said, denied}
use Rattle.laws.proofs.Steps.{Within}
use Rattle.laws.proofs.Passed.{passed_found}
use Rattle.findings.specs.declared.Found.{Found}
use Rattle.findings.specs.Meant.{Finds}
use Rattle.findings.proofs.Meant.{found_pair, found_no_pair}
use Rattle.plain.specs.Pairs.{FirstPair, no_pair, that_pair}

-- the first pair that passes, of a test that tells whether a pair is one
pub pairs_found :
    {R : ℕ → ℕ → Type 0} {n : ℕ} {Answers : ℕ → ℕ → Bool → Type 0} {x : Found} → Within n (λ p q. PairWith R (a_pair (record { first = p; second = q })))
    → ((p q : ℕ) (b : Bool) → p < n → q < n → Answers p q b → Says b (R p q)) → FirstPair n Answers x → Finds (PairWith R) x
pairs_found {R} {n} within tells (no_pair none) =
    found_no_pair (Least.absent (λ z s. let on = pair_with s in denied (tells z.first z.second false (within.left on) (within.right on) (none.rows _ _ (within.left on) (within.right on))) refl s))
pairs_found {R} {n} within tells (that_pair {p} {q} hp hq yes_here refused) =
    found_pair (passed_found (said (tells p q true hp hq yes_here) refl) (record {
      rows = λ x y l s. let h = within.right (pair_with s) in denied (tells x y false (omega arith) h (refused.rows x y l h)) refl s;
      here = λ y l s. denied (tells p y false hp (omega arith) (refused.here y l)) refl s;
    }))

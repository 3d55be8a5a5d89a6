-- What a search's answer means says which it is.
use Rattle.std.specs.Prelude.{Option, None, Some}
use mathlib.Core.Path.{◌≡◌, refl, sym, ap, subst, ◌∙◌}
use mathlib.Core.List.{List, ◌++◌}
use lib.Dec.{T}
use lib.ListN.{length, drop}
use Prim.Native.Nat.{ℕ}
use Rattle.laws.specs.Steps.{Rel, IsCycle}
use Rattle.laws.specs.Least.{LeastNumber, LeastPair, LeastCycle}
use Rattle.laws.specs.Witness.{Witness, a_cycle, RecordWith, PairWith, CycleWith, cycle_with}
use Rattle.laws.proofs.Least.{least_iff, cycle_to}
use Rattle.laws.proofs.Witness.{witness_unique, least_record, least_pair, least_cycle}
use Rattle.findings.specs.declared.Found.{Found}
use Rattle.findings.specs.declared.Found.TheVariants as found
use Rattle.findings.specs.Family.{there}
use Rattle.findings.specs.Meant.{Means, nothing, record_of, pair_of, cycle_of, lent, Finds, FindsIn}

pub means_one : {x y : Found} {w : Option Witness} → Means x w → Means y w → x ≡ y
means_one nothing nothing = refl
means_one record_of record_of = refl
means_one pair_of pair_of = refl
means_one (cycle_of e) (cycle_of f) = ap found.Cycle (e ∙ sym f)

-- there is one exactly where the answer says so
pub there_some : {x : Found} {w : Option Witness} → Means x w → T (there x) → (v : Witness) × (w ≡ Some v)
there_some nothing h = absurd h
there_some record_of h = (_, refl)
there_some pair_of h = (_, refl)
there_some (cycle_of l) h = (_, refl)

pub there_none : {x : Found} {w : Option Witness} → Means x w → ¬ T (there x) → w ≡ None
there_none nothing h = refl
there_none record_of h = absurd (h tt)
there_none pair_of h = absurd (h tt)
there_none (cycle_of l) h = absurd (h tt)

-- ---- what a search finds

pub finds_one : {Shows : Witness → Type 0} {x y : Found} → Finds Shows x → Finds Shows y → x ≡ y
finds_one {x = x} p q = means_one p.means (subst (Means _) (witness_unique q.least p.least) q.means)

pub finds_bytes : {Shows : Witness → Type 0} {before after after' : List ℕ} {x y : Found} → FindsIn Shows before after x → FindsIn Shows before after' y → after ≡ after'
finds_bytes {before = before} p q =
    p.bytes ∙ (ap (λ (w : Option Witness). lent w before) (witness_unique p.finds.least q.finds.least) ∙ sym q.bytes)

-- what shows the one shows the other, and the other way round
pub finds_iff : {S T : Witness → Type 0} {x : Found} → ((w : Witness) → S w → T w) → ((w : Witness) → T w → S w) → Finds S x → Finds T x
finds_iff f g p = record { witness = p.witness; least = least_iff f g p.least; means = p.means }

pub finds_in_iff : {S T : Witness → Type 0} {before after : List ℕ} {x : Found} → ((w : Witness) → S w → T w) → ((w : Witness) → T w → S w) → FindsIn S before after x → FindsIn T before after x
unfolding finds_iff
finds_in_iff f g p = record { finds = finds_iff f g p.finds; bytes = p.bytes }

-- a cycle of one relation is a cycle of another with the same steps
pub finds_cycle_iff :
    {R S : Rel} {before after : List ℕ} {x : Found} → ((a b : ℕ) → R a b → S a b) → ((a b : ℕ) → S a b → R a b) → FindsIn (CycleWith (IsCycle R)) before after x → FindsIn (CycleWith (IsCycle S)) before after x
finds_cycle_iff f g = finds_in_iff (λ w. along f) (λ w. along g)
  where
    along : {R S : Rel} {w : Witness} → ((a b : ℕ) → R a b → S a b) → CycleWith (IsCycle R) w → CycleWith (IsCycle S) w
    along h (cycle_with {c = c} z) = cycle_with (cycle_to h c z)

-- ---- the least that a search among things of one sort met, or nothing

pub found_no_record : {P : ℕ → Type 0} → LeastNumber P None → Finds (RecordWith P) found.Nothing
found_no_record l = record { witness = None; least = least_record l; means = nothing }

pub found_record : {P : ℕ → Type 0} {n : ℕ} → LeastNumber P (Some n) → Finds (RecordWith P) (found.Record n)
found_record l = record { witness = _; least = least_record l; means = record_of }

pub found_no_pair : {R : ℕ → ℕ → Type 0} → LeastPair R None → Finds (PairWith R) found.Nothing
found_no_pair l = record { witness = None; least = least_pair l; means = nothing }

pub found_pair : {R : ℕ → ℕ → Type 0} {p q : ℕ} → LeastPair R (Some (record { first = p; second = q })) → Finds (PairWith R) (found.Pair p q)
found_pair l = record { witness = _; least = least_pair l; means = pair_of }

pub found_no_cycle : {R : Rel} {before after : List ℕ} → LeastCycle R None → after ≡ before → FindsIn (CycleWith (IsCycle R)) before after found.Nothing
found_no_cycle l e = record { finds = record { witness = None; least = least_cycle l; means = nothing }; bytes = e }

pub found_cycle :
    {R : Rel} {before after : List ℕ} {len : ℕ} {c : List ℕ} → LeastCycle R (Some c) → len ≡ length c → after ≡ c ++ drop len before → FindsIn (CycleWith (IsCycle R)) before after (found.Cycle len)
found_cycle {before = before} {c = c} l long e = record {
  finds = record { witness = Some (a_cycle c); least = least_cycle l; means = cycle_of long };
  bytes = e ∙ ap (λ (k : ℕ). c ++ drop k before) long;
}

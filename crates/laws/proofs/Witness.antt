-- Least witnesses of every sort: one only, and the least record, pair or cycle is the least witness.
use Rattle.std.specs.Prelude.{Option, None, Some}
use mathlib.Core.Path.{◌≡◌, refl, ap, subst}
use mathlib.Core.List.{List}
use Prim.Native.Nat.{ℕ}
use Rattle.laws.specs.Least.{Least, Pair, LeastNumber, LeastPair, CycleAtMost}
use Rattle.laws.specs.Witness.{Witness, a_record, a_pair, a_cycle, AtMost, records, pairs, cycles, LeastWitness, RecordWith, record_with, PairWith, pair_with, CycleWith, cycle_with}
use Rattle.laws.proofs.Least.{number_one, pair_one, cycle_one, least_one}

witness_one : (v w : Witness) → AtMost v w → AtMost w v → v ≡ w
witness_one (a_record m) (a_record n) (records h) (records k) = ap a_record (number_one m n h k)
witness_one (a_pair p) (a_pair q) (pairs h) (pairs k) = ap a_pair (pair_one p q h k)
witness_one (a_cycle c) (a_cycle d) (cycles h) (cycles k) = ap a_cycle (cycle_one c d h k)
witness_one (a_record m) (a_pair q) h _ = elim h [ ]
witness_one (a_record m) (a_cycle d) h _ = elim h [ ]
witness_one (a_pair p) (a_record n) h _ = elim h [ ]
witness_one (a_pair p) (a_cycle d) h _ = elim h [ ]
witness_one (a_cycle c) (a_record n) h _ = elim h [ ]
witness_one (a_cycle c) (a_pair q) h _ = elim h [ ]

pub witness_unique : {Shows : Witness → Type 0} {x y : Option Witness} → LeastWitness Shows x → LeastWitness Shows y → x ≡ y
witness_unique = least_one witness_one

-- what a least witness shows, and what none denies
pub shown : {Shows : Witness → Type 0} {w : Witness} → LeastWitness Shows (Some w) → Shows w
shown (Least.least s l) = s

pub denied_all : {Shows : Witness → Type 0} → LeastWitness Shows None → (w : Witness) → ¬ Shows w
denied_all (Least.absent n) = n

-- a search among things of one sort is a search among witnesses
module _ {A : Type 0} (sort : A → Witness) where
  abbrev pub sorted : Option A → Option Witness
  sorted None = None
  sorted (Some a) = Some (sort a)

  least_sorted :
      {O : A → A → Type 0} {S : A → Type 0} {Shows : Witness → Type 0} → ((a b : A) → O a b → AtMost (sort a) (sort b)) → ((a : A) → S a → Shows (sort a)) → ((w : Witness) → Shows w → (a : A) × ((sort a ≡ w) × S a))
      → {x : Option A} → Least O S x → LeastWitness Shows (sorted x)
  least_sorted order to back (Least.absent none_shows) = Least.absent (λ w s. let (a, (e, z)) = back w s in none_shows a z)
  least_sorted order to back (Least.least {a = a} s l) =
      Least.least (to a s) (λ w t. let (b, (e, z)) = back w t in subst (AtMost (sort a)) e (order a b (l b z)))

record_back : {P : ℕ → Type 0} (w : Witness) → RecordWith P w → (n : ℕ) × ((a_record n ≡ w) × P n)
record_back w (record_with {n = n} s) = (n, (refl, s))

pair_back : {R : ℕ → ℕ → Type 0} (w : Witness) → PairWith R w → (p : Pair) × ((a_pair p ≡ w) × R p.first p.second)
pair_back w (pair_with {p = p} s) = (p, (refl, s))

cycle_back : {P : List ℕ → Type 0} (w : Witness) → CycleWith P w → (c : List ℕ) × ((a_cycle c ≡ w) × P c)
cycle_back w (cycle_with {c = c} s) = (c, (refl, s))

pub least_record : {P : ℕ → Type 0} {x : Option ℕ} → LeastNumber P x → LeastWitness (RecordWith P) (sorted a_record x)
least_record = least_sorted a_record (λ a b. records) (λ a. record_with) record_back

pub least_pair : {R : ℕ → ℕ → Type 0} {x : Option Pair} → LeastPair R x → LeastWitness (PairWith R) (sorted a_pair x)
least_pair = least_sorted a_pair (λ a b. pairs) (λ a. pair_with) pair_back

pub least_cycle : {P : List ℕ → Type 0} {x : Option (List ℕ)} → Least CycleAtMost P x → LeastWitness (CycleWith P) (sorted a_cycle x)
least_cycle = least_sorted a_cycle (λ a b. cycles) (λ a. cycle_with) cycle_back

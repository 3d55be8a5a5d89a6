-- Witnesses of every sort: one record, two, or a cycle; and which of two is at most the other.
use Rattle.std.specs.Prelude.{List, ℕ, ◌≤◌, Option}
use Rattle.laws.specs.Least.{Least, Pair, PairAtMost, CycleAtMost}

pub data Witness : Type 0 where
  a_record : ℕ → Witness
  a_pair : Pair → Witness
  a_cycle : List ℕ → Witness

-- of two witnesses of one sort, by the order of that sort
pub data AtMost : Witness → Witness → Type 0 where
  records : {m n : ℕ} → m ≤ n → AtMost (a_record m) (a_record n)
  pairs : {p q : Pair} → PairAtMost p q → AtMost (a_pair p) (a_pair q)
  cycles : {c d : List ℕ} → CycleAtMost c d → AtMost (a_cycle c) (a_cycle d)

-- the least witness of what Shows says, or none
abbrev pub LeastWitness : (Witness → Type 0) → Option Witness → Type 0
LeastWitness Shows = Least AtMost Shows

-- a witness that is one record, with P
pub data RecordWith (P : ℕ → Type 0) : Witness → Type 0 where
  record_with : {n : ℕ} → P n → RecordWith P (a_record n)

-- one that is two records, with R between them
pub data PairWith (R : ℕ → ℕ → Type 0) : Witness → Type 0 where
  pair_with : {p : Pair} → R p.first p.second → PairWith R (a_pair p)

-- one that is a list of records, with P
pub data CycleWith (P : List ℕ → Type 0) : Witness → Type 0 where
  cycle_with : {c : List ℕ} → P c → CycleWith P (a_cycle c)

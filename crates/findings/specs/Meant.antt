-- The witness that a search's answer stands for, and the lent bytes where a cycle stands.
use Rattle.std.specs.Prelude.{◌≡◌, List, ◌++◌, ℕ, length, drop, Option, None, Some}
use Rattle.laws.specs.Witness.{Witness, a_record, a_pair, a_cycle, LeastWitness}
use Rattle.findings.specs.declared.Found.{Found}
use Rattle.findings.specs.declared.Found.TheVariants as found

-- the answer says this witness, or none; of a cycle it says how many records it has
pub data Means : Found → Option Witness → Type 0 where
  nothing : Means found.Nothing None
  record_of : {n : ℕ} → Means (found.Record n) (Some (a_record n))
  pair_of : {p q : ℕ} → Means (found.Pair p q) (Some (a_pair (record { first = p; second = q })))
  cycle_of : {len : ℕ} {c : List ℕ} → len ≡ length c → Means (found.Cycle len) (Some (a_cycle c))

-- what a lent buffer holds then: "bytes past a list, and the whole buffer of an absent cycle, keep what they held"
abbrev pub lent : Option Witness → List ℕ → List ℕ
lent None before = before
lent (Some (a_record n)) before = before
lent (Some (a_pair p)) before = before
lent (Some (a_cycle c)) before = c ++ drop (length c) before

-- x is what a search for the least witness finds
pub record Finds (Shows : Witness → Type 0) (x : Found) : Type 0 where
  pub witness : Option Witness
  pub least : LeastWitness Shows witness
  pub means : Means x witness

-- and the records of a cycle stand at the front of the lent bytes
pub record FindsIn (Shows : Witness → Type 0) (before after : List ℕ) (x : Found) : Type 0 where
  pub finds : Finds Shows x
  pub bytes : after ≡ lent finds.witness before

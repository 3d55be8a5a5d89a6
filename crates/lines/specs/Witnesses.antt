-- The witness of each finding as a judging leaves it: in what was found, and in the two buffers with the records of the cycles.
use Rattle.std.specs.Prelude.{cond, List, ℕ, ◌≤◌, length, take, Option, None, Some}
use Rattle.laws.specs.Witness.{Witness, a_record, a_pair, a_cycle}
use Rattle.findings.specs.declared.Finding.{Finding}
use Rattle.findings.specs.declared.Found.{Found}
use Rattle.findings.specs.declared.Found.TheVariants.{Nothing, Record, Pair, Cycle}
use Rattle.findings.specs.declared.Findings.{Findings}
use Rattle.findings.specs.Family.{in_second, found_of}

-- the witness that was found, with the records of a cycle at the front of a buffer
abbrev pub witness_in : Found → List ℕ → Option Witness
witness_in Nothing records = None
witness_in (Record n) records = Some (a_record n)
witness_in (Pair p q) records = Some (a_pair (record { first = p; second = q }))
witness_in (Cycle len) records = Some (a_cycle (take len records))

-- all records of a cycle are there
abbrev pub Whole : Found → List ℕ → Type 0
Whole Nothing records = Unit {0}
Whole (Record n) records = Unit {0}
Whole (Pair p q) records = Unit {0}
Whole (Cycle len) records = len ≤ length records

-- "The two cycles go as one byte per record to two lent buffers": the one of a finding's cycle
abbrev pub buffer_of : Finding → List ℕ → List ℕ → List ℕ
buffer_of f first second = cond (in_second f) second first

-- the witness of each finding
abbrev pub witnesses : Findings → List ℕ → List ℕ → Finding → Option Witness
witnesses x first second f = witness_in (found_of x f) (buffer_of f first second)

-- with all records of every cycle there
pub record AllWhole (x : Findings) (first second : List ℕ) : Type 0 where
  pub whole : (f : Finding) → Whole (found_of x f) (buffer_of f first second)

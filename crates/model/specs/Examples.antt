-- The small structures E1 to E10 of document 01 and the table of document 02's W2, and the report of each.
use Rattle.std.specs.Prelude.{Bool, true, false, List, [], ◌∷◌, ℕ, eqb, None, Some, Option}
use Rattle.events.specs.declared.Order.TheVariants.{Na, Acq, Rel, Ar, Sc}
use Rattle.events.specs.declared.Value.TheVariants.{U, Known}
use Rattle.events.specs.declared.Event.{Event}
use Rattle.events.specs.declared.Event.TheVariants.{Init, Load, Store, Update}
use Rattle.events.specs.declared.Record.{Record}
use Rattle.laws.specs.Witness.{Witness, a_record, a_pair, a_cycle}
use Rattle.findings.specs.declared.Finding.{Finding}
use Rattle.findings.specs.declared.Finding.TheVariants.{R, A1, A2, A3, A4, A5, W}
use Rattle.findings.specs.declared.Verdict.{Verdict}
use Rattle.findings.specs.declared.Verdict.TheVariants.{Undefined, Inconsistent, Consistent}
use Rattle.findings.specs.Family.{place_of}
use Rattle.model.specs.Table.{listed}
use Rattle.model.specs.WellFormed.{WellFormed}
use Rattle.model.specs.Findings.{Report, Reports}

pub record Example : Type 0 where
  pub table : List Record
  pub report : Report

-- the table is well-formed, and the report is the one that the definitions ask for
pub record Right (e : Example) : Type 0 where
  pub well_formed : WellFormed (listed e.table)
  pub reports : Reports (listed e.table) e.report

abbrev pub Each : (Example → Type 0) → List Example → Type 0
Each P [] = Unit {0}
Each P (e ∷ es) = P e × Each P es

-- "Locations X, Y, Z are 0, 1, 2."
abbrev X : ℕ
X = 0

abbrev Y : ℕ
Y = 1

abbrev Z : ℕ
Z = 2

-- record 0; then thread, parent, event, and for a read with a source its source ('"p" is the parent, "s" the source')
abbrev root : Record
root = record { thread = 0; parent = None; source = None; event = Init }

abbrev p : ℕ → ℕ → Event → Record
p parent thread event = record { thread = thread; parent = Some parent; source = None; event = event }

abbrev ps : ℕ → ℕ → ℕ → Event → Record
ps parent source thread event = record { thread = thread; parent = Some parent; source = Some source; event = event }

abbrev pair : ℕ → ℕ → Witness
pair a b = a_pair (record { first = a; second = b })

abbrev some_if : Bool → Witness → Option Witness
some_if true w = Some w
some_if false w = None

-- this finding with this witness, and no other
abbrev only : Finding → Witness → Verdict → Report
only f w verdict = record { witness = λ g. some_if (eqb (place_of f) (place_of g)) w; verdict = verdict }

-- no finding
abbrev pub allowed : Report
allowed = record { witness = λ g. None; verdict = Consistent }

-- "Init alone: consistent."
abbrev pub E1 : Example
E1 = record { table = root ∷ []; report = allowed }

-- "0 Init; 1 store REL X=0 p0; 2 load ACQ X 0 p1 s1; 3 store REL X=1 p2; 4 load ACQ X 1 p1 s3: A2 at 2 4 only."
abbrev pub E2 : Example
E2 = record {
  table =
      root
      ∷ p 0 0 (Store Rel X (Known 0))
      ∷ ps 1 1 0 (Load Acq X (Known 0))
      ∷ p 2 0 (Store Rel X (Known 1))
      ∷ ps 1 3 0 (Load Acq X (Known 1))
      ∷ [];
  report = only A2 (pair 2 4) Inconsistent;
}

-- E3 and E4 up to their last record: "0 Init; 1 store NA X=0 p0; 2 store NA Y=0 p1; 3 Init thread 1 p2; 4 store SC X=1 p3;
-- 5 load SC Y 0 p4 s2; 6 Init thread 2 p2; 7 store SC Y=1 p6"
abbrev two_threads : Record → List Record
two_threads record_8 =
    root
    ∷ p 0 0 (Store Na X (Known 0))
    ∷ p 1 0 (Store Na Y (Known 0))
    ∷ p 2 1 Init
    ∷ p 3 1 (Store Sc X (Known 1))
    ∷ ps 4 2 1 (Load Sc Y (Known 0))
    ∷ p 2 2 Init
    ∷ p 6 2 (Store Sc Y (Known 1))
    ∷ record_8
    ∷ []

-- "8 load SC X 0 p7 s1: A4 with 4 5 7 8 only."
abbrev pub E3 : Example
E3 = record {
  table = two_threads (ps 7 1 2 (Load Sc X (Known 0)));
  report = only A4 (a_cycle (4 ∷ 5 ∷ 7 ∷ 8 ∷ [])) Inconsistent;
}

-- "E3 with record 8 reading 1 from 4: consistent."
abbrev pub E4 : Example
E4 = record { table = two_threads (ps 7 4 2 (Load Sc X (Known 1))); report = allowed }

-- "0 Init; 1 and 2 Init of threads 1, 2 p0; 3 store NA X=1 p1; 4 store NA X=2 p2: W at 3 4, undefined."
abbrev pub E5 : Example
E5 = record {
  table =
      root
      ∷ p 0 1 Init
      ∷ p 0 2 Init
      ∷ p 1 1 (Store Na X (Known 1))
      ∷ p 2 2 (Store Na X (Known 2))
      ∷ [];
  report = only W (pair 3 4) Undefined;
}

-- "0 Init; 1 store NA X=0 p0; 2 load NA X 0 p1 s1; 3 load NA X u p1, no source: R at 3."
abbrev pub E6 : Example
E6 = record {
  table =
      root
      ∷ p 0 0 (Store Na X (Known 0))
      ∷ ps 1 1 0 (Load Na X (Known 0))
      ∷ p 1 0 (Load Na X U)
      ∷ [];
  report = only R (a_record 3) Inconsistent;
}

-- "0 Init; 1 load NA X u p0, no source: consistent."
abbrev pub E7 : Example
E7 = record { table = root ∷ p 0 0 (Load Na X U) ∷ []; report = allowed }

-- "0 to 4 as: Init; store NA X=0 p0; store NA Y=0 p1; Init thread 1 p2; Init thread 2 p2. 5 load NA X 0 p3 s1; 6 load NA Y 0 p4 s2;
-- 7 store NA Y=1 p5; 8 load NA Y u p4; 9 store NA X=1 p8; 10 load NA X u p3; 11 store NA Y=1 p10: consistent."
abbrev pub E8 : Example
E8 = record {
  table =
      root
      ∷ p 0 0 (Store Na X (Known 0))
      ∷ p 1 0 (Store Na Y (Known 0))
      ∷ p 2 1 Init
      ∷ p 2 2 Init
      ∷ ps 3 1 1 (Load Na X (Known 0))
      ∷ ps 4 2 2 (Load Na Y (Known 0))
      ∷ p 5 1 (Store Na Y (Known 1))
      ∷ p 4 2 (Load Na Y U)
      ∷ p 8 2 (Store Na X (Known 1))
      ∷ p 3 1 (Load Na X U)
      ∷ p 10 1 (Store Na Y (Known 1))
      ∷ [];
  report = allowed;
}

-- "0 Init; 1 to 4 Init of threads 1 to 4 p0; 5 store REL X=1 p1; 6 store REL X=2 p2; 7 load ACQ X 1 p3 s5; 8 load ACQ X 2 p7 s6;
-- 9 load ACQ X 2 p4 s6; 10 load ACQ X 1 p9 s5: A1 with 5 6 only."
abbrev pub E9 : Example
E9 = record {
  table =
      root
      ∷ p 0 1 Init
      ∷ p 0 2 Init
      ∷ p 0 3 Init
      ∷ p 0 4 Init
      ∷ p 1 1 (Store Rel X (Known 1))
      ∷ p 2 2 (Store Rel X (Known 2))
      ∷ ps 3 5 3 (Load Acq X (Known 1))
      ∷ ps 7 6 3 (Load Acq X (Known 2))
      ∷ ps 4 6 4 (Load Acq X (Known 2))
      ∷ ps 9 5 4 (Load Acq X (Known 1))
      ∷ [];
  report = only A1 (a_cycle (5 ∷ 6 ∷ [])) Inconsistent;
}

-- "0 Init; 1 store NA Z=0 p0; 2, 3, 4 Init of threads 1, 2, 3 p1; 5 store REL Z=1 p2; 6 load ACQ Z 0 p3 s1; 7 load ACQ Z 1 p3 s5;
-- 8 store REL X=1 p6; 9 store REL Y=1 p7; 10 load ACQ X 1 p4 s8; 11 load ACQ Y 1 p10 s9: A3 at 10 11 only."
abbrev pub E10 : Example
E10 = record {
  table =
      root
      ∷ p 0 0 (Store Na Z (Known 0))
      ∷ p 1 1 Init
      ∷ p 1 2 Init
      ∷ p 1 3 Init
      ∷ p 2 1 (Store Rel Z (Known 1))
      ∷ ps 3 1 2 (Load Acq Z (Known 0))
      ∷ ps 3 5 2 (Load Acq Z (Known 1))
      ∷ p 6 2 (Store Rel X (Known 1))
      ∷ p 7 2 (Store Rel Y (Known 1))
      ∷ ps 4 8 3 (Load Acq X (Known 1))
      ∷ ps 10 9 3 (Load Acq Y (Known 1))
      ∷ [];
  report = only A3 (pair 10 11) Inconsistent;
}

-- W2 of document 02: "0 Init; 1 store REL X=0 p0; 2 and 3 Init of threads 1 and 2 p1; 4 and 5 updates AR of X from 0 to 1, p2 and p3,
-- both s1": A5 at 4 5 only.
abbrev pub E11 : Example
E11 = record {
  table =
      root
      ∷ p 0 0 (Store Rel X (Known 0))
      ∷ p 1 1 Init
      ∷ p 1 2 Init
      ∷ ps 2 1 1 (Update Ar X (Known 0) (Known 1))
      ∷ ps 3 1 2 (Update Ar X (Known 0) (Known 1))
      ∷ [];
  report = only A5 (pair 4 5) Inconsistent;
}

abbrev pub examples : List Example
examples = E1 ∷ E2 ∷ E3 ∷ E4 ∷ E5 ∷ E6 ∷ E7 ∷ E8 ∷ E9 ∷ E10 ∷ E11 ∷ []

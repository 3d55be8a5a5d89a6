-- The seven findings (six of document 01, and A5 of document 02), their witnesses, and the verdict.
use Rattle.std.specs.Prelude.{List, ℕ, ◌<◌, Option}
use Rattle.laws.specs.Steps.{IsCycle}
use Rattle.laws.specs.Witness.{Witness, LeastWitness, RecordWith, PairWith, CycleWith}
use Rattle.findings.specs.declared.Finding.{Finding}
use Rattle.findings.specs.declared.Finding.TheVariants.{R, A1, A2, A3, A4, A5, W}
use Rattle.findings.specs.declared.Verdict.{Verdict}
use Rattle.findings.specs.declared.Verdict.TheVariants.{Undefined, Inconsistent, Consistent}
use Rattle.model.specs.Table.{Table, Source, IsUpdate, Read, Write}
use Rattle.model.specs.Relations.{Conflict, Hb, Race, Wb0, ScStep, Justified}

module _ (t : Table) where
  -- R: "some read is not justified"
  pub record ShowsR (r : ℕ) : Type 0 where
    pub reads : Read t r
    pub not_justified : ¬ Justified t r

  -- A1: "wb0 has a cycle"
  abbrev pub ShowsA1 : List ℕ → Type 0
  ShowsA1 = IsCycle (Wb0 t)

  -- A2: "p conflicts with q and p hb q"
  pub record ShowsA2 (p q : ℕ) : Type 0 where
    pub conflict : Conflict t p q
    pub before : Hb t p q

  -- A3: "r' hb r, both have sources, and the two sources conflict"
  pub record ShowsA3 (r' r : ℕ) : Type 0 where
    pub before : Hb t r' r
    pub s' : ℕ
    pub s : ℕ
    pub source' : Source t s' r'
    pub source : Source t s r
    pub conflict : Conflict t s' s

  -- A4: "hbsc, wb and fr together, among SC records, have a cycle"
  abbrev pub ShowsA4 : List ℕ → Type 0
  ShowsA4 = IsCycle (ScStep t)

  -- A5 (document 02): "two different updates, not in conflict, have the same source"; p is the one earlier in the table
  pub record ShowsA5 (p q : ℕ) : Type 0 where
    pub in_order : p < q
    pub update_p : IsUpdate t p
    pub update_q : IsUpdate t q
    pub s : ℕ
    pub source_p : Source t s p
    pub source_q : Source t s q
    pub no_conflict : ¬ Conflict t p q

  -- W: "two writes race", "p before q in the table"
  pub record ShowsW (p q : ℕ) : Type 0 where
    pub in_order : p < q
    pub write_p : Write t p
    pub write_q : Write t q
    pub race : Race t p q

  -- the table of findings: "finding | holds when | witness"
  abbrev pub Shows : Finding → Witness → Type 0
  Shows R = RecordWith ShowsR
  Shows A1 = CycleWith ShowsA1
  Shows A2 = PairWith ShowsA2
  Shows A3 = PairWith ShowsA3
  Shows A4 = CycleWith ShowsA4
  Shows A5 = PairWith ShowsA5
  Shows W = PairWith ShowsW

  -- a finding holds when some witness shows it
  pub record Holds (f : Finding) : Type 0 where
    pub witness : Witness
    pub shows : Shows f witness

  -- "Verdict: undefined if W holds, else inconsistent if any other does, else consistent."
  pub data VerdictIs : Verdict → Type 0 where
    W_holds : Holds W → VerdictIs Undefined
    another_holds : ¬ Holds W → (f : Finding) → Holds f → VerdictIs Inconsistent
    none_holds : ((f : Finding) → ¬ Holds f) → VerdictIs Consistent

-- the witness of each finding, or none, and the verdict
pub record Report : Type 0 where
  pub witness : Finding → Option Witness
  pub verdict : Verdict

-- x is the report of t: "All six are judged always", seven with A5, each with its least witness
pub record Reports (t : Table) (x : Report) : Type 0 where
  pub least : (f : Finding) → LeastWitness (Shows t f) (x.witness f)
  pub verdict : VerdictIs t x.verdict

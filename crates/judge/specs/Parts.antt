-- What the parts of the judge promise each other.
use Rattle.std.specs.Prelude.{◌≡◌, List, ℕ}
use Rattle.findings.specs.declared.Finding.{Finding}
use Rattle.findings.specs.declared.Finding.TheVariants.{A1, A4}
use Rattle.findings.specs.declared.Findings.{Findings}
use Rattle.findings.specs.Family.{found_of}
use Rattle.findings.specs.Meant.{lent, Finds}
use Rattle.model.specs.Table.{Table}
use Rattle.model.specs.Findings.{Shows}
use Rattle.judge.specs.declared.Report.{Report}
use Rattle.judge.specs.Answer.{Witnesses, Tells}

-- x is what was found of each finding of t, with the cycles in the two buffers
pub record FoundAll (t : Table) (before₁ after₁ before₂ after₂ : List ℕ) (x : Findings) : Type 0 where
  pub each : (f : Finding) → Finds (Shows t f) (found_of x f)
  pub first : after₁ ≡ lent (each A1).witness before₁
  pub second : after₂ ≡ lent (each A4).witness before₂

-- x is the report of the table b, with the cycles in the two buffers
pub record ReportOf (b before₁ after₁ before₂ after₂ : List ℕ) (x : Report) : Type 0 where
  pub witness : Witnesses
  pub tells : Tells b witness x
  pub first : after₁ ≡ lent (witness A1) before₁
  pub second : after₂ ≡ lent (witness A4) before₂

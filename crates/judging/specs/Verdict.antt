-- The verdict as a function of what was found of each finding.
use Rattle.std.specs.Prelude.{Bool, true, false, length}
use Rattle.laws.specs.Says.{any_below}
use Rattle.findings.specs.declared.Findings.{Findings}
use Rattle.findings.specs.declared.Verdict.{Verdict}
use Rattle.findings.specs.declared.Verdict.TheVariants.{Undefined, Inconsistent, Consistent}
use Rattle.findings.specs.Family.{all_in_order, finding_at, found_of, there}

-- whether any finding has a witness
unfoldable pub any_found : Findings → Bool
any_found x = any_below (λ place. there (found_of x (finding_at place))) (length all_in_order)

abbrev pub verdict_by : Bool → Bool → Verdict
verdict_by true any = Undefined
verdict_by false true = Inconsistent
verdict_by false false = Consistent

-- "undefined if W holds, else inconsistent if any other does, else consistent"
abbrev pub verdict_of : Findings → Verdict
verdict_of x = verdict_by (there x.w) (any_found x)

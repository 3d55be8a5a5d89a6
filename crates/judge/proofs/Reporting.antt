-- The verdict, and the whole report, from what was found of each finding.
use mathlib.Core.Path.{◌≡◌, refl, sym, subst}
use mathlib.Core.Bool.{Bool, true, false}
use mathlib.Core.List.{List}
use Prim.Native.Nat.{ℕ}
use lib.Dec.{T}
use lib.ListN.{length}
use Rattle.laws.specs.Says.{Says}
use Rattle.laws.specs.Witness.{LeastWitness}
use Rattle.laws.proofs.Says.{any_in, any_of}
use Rattle.findings.specs.declared.Finding.{Finding}
use Rattle.findings.specs.declared.Finding.TheVariants.{W}
use Rattle.findings.specs.declared.Findings.{Findings}
use Rattle.findings.specs.declared.Verdict.{Verdict}
use Rattle.findings.specs.Family.{all_in_order, place_of, finding_at, found_of, there}
use Rattle.findings.proofs.Family.{place_below, finding_at_lem}
use Rattle.findings.proofs.Meant.{there_some, there_none}
use Rattle.model.specs.Table.{Table}
use Rattle.model.specs.Findings.{Shows, VerdictIs}
use Rattle.model.proofs.Verdicts.{undefined_by, inconsistent_by, consistent_by}
use Rattle.table.specs.Events.{events_of}
use Rattle.judging.specs.Verdict.{any_found, verdict_by, verdict_of}
use Rattle.judge.specs.Parts.{FoundAll, ReportOf}

-- asked at each place, every finding is asked
any_found_lem : (x : Findings) → Says (any_found x) ((f : Finding) × T (there (found_of x f)))
unfolding any_found
any_found_lem x = record {
  to = λ h. let (place, (_, q)) = any_in (λ place. there (found_of x (finding_at place))) (length all_in_order) h in (finding_at place, q);
  from = λ (f, q). any_of (λ place. there (found_of x (finding_at place))) (length all_in_order) (place_of f) (place_below f) (subst (λ (g : Finding). T (there (found_of x g))) (sym (finding_at_lem f)) q);
}

module _ {t : Table} {before₁ after₁ before₂ after₂ : List ℕ} {x : Findings} (all : FoundAll t before₁ after₁ before₂ after₂ x) where
  verdict_right : VerdictIs t (verdict_of x)
  verdict_right = by (there x.w) (any_found x) refl (any_found_lem x)
    where
      least : (f : Finding) → LeastWitness (Shows t f) (all.each f).witness
      least f = (all.each f).least

      by : (w any : Bool) → there x.w ≡ w → Says any ((f : Finding) × T (there (found_of x f))) → VerdictIs t (verdict_by w any)
      by true any e s = undefined_by least (there_some (all.each W).means (subst T (sym e) tt)).1
      by false true e s =
          let (f, h) = s.to tt in
          inconsistent_by least f (there_none (all.each W).means (subst T e)) (there_some (all.each f).means h).1
      by false false e s = consistent_by least (λ f. there_none (all.each f).means (λ h. s.from (f, h)))

pub report_right :
    {b before₁ after₁ before₂ after₂ : List ℕ} {n : ℕ} {x : Findings} {verdict : Verdict} → n ≡ (events_of b).count → FoundAll (events_of b) before₁ after₁ before₂ after₂ x → verdict ≡ verdict_of x
    → ReportOf b before₁ after₁ before₂ after₂ (record { events = n; findings = x; verdict = verdict })
report_right {b} count all is = record {
  witness = λ f. (all.each f).witness;
  tells = record {
    events = count;
    right = record { least = λ f. (all.each f).least; verdict = subst (VerdictIs (events_of b)) (sym is) (verdict_right all) };
    means = λ f. (all.each f).means;
  };
  first = all.first;
  second = all.second;
}

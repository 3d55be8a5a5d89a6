-- The figures of one table by what the judge answered.
use Rattle.std.specs.Prelude.{map, ℕ, eqb, Result, Ok, Err}
use Rattle.findings.specs.declared.Verdict.TheVariants.{Undefined, Inconsistent, Consistent}
use Rattle.findings.specs.Family.{all_in_order, found_of, there}
use Rattle.refusals.specs.declared.Refusal.{Refusal}
use Rattle.refusals.specs.Numbers.{told}
use Rattle.judge.specs.declared.Report.{Report}
use Rattle.tally.specs.declared.Figures.{Figures}
use Rattle.tally.specs.Figures.{one_if, numbers, same_verdict}

-- one table, refused with this number
abbrev pub of_refused : ℕ → Figures
of_refused number = record {
  tables = 1;
  refused = map (λ n. one_if (eqb number n)) numbers;
  found = map (λ f. 0) all_in_order;
  consistent = 0;
  inconsistent = 0;
  undefined = 0;
  largest = 0;
}

-- one table with this report
abbrev pub of_report : Report → Figures
of_report x = record {
  tables = 1;
  refused = map (λ n. 0) numbers;
  found = map (λ f. one_if (there (found_of x.findings f))) all_in_order;
  consistent = one_if (same_verdict Consistent x.verdict);
  inconsistent = one_if (same_verdict Inconsistent x.verdict);
  undefined = one_if (same_verdict Undefined x.verdict);
  largest = x.events;
}

abbrev pub of_judged : Result Report Refusal → Figures
of_judged (Err r) = of_refused (told r).number
of_judged (Ok x) = of_report x

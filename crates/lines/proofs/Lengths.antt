-- How long the report can be, by the count of its records.
use Rattle.std.specs.Prelude.{Option, Some}
use mathlib.Core.List.{List, [], ◌∷◌, ◌++◌}
use Prim.Native.Nat.{ℕ, ◌+◌, ◌*◌, ◌≤◌}
use native.Mathlib.Nat.{suc-mul}
use native.Mathlib.Omega.{arith}
use lib.ListN.{length, length-append}
use Rattle.limits.specs.Limit.{limit}
use Rattle.laws.specs.Least.{Least}
use Rattle.laws.specs.Witness.{Witness, LeastWitness}
use Rattle.laws.proofs.Walks.{Below}
use Rattle.laws.proofs.Fits.{Fits, one_inside, two_inside, all_inside}
use Rattle.findings.specs.declared.Finding.{Finding}
use Rattle.findings.specs.declared.Verdict.{Verdict}
use Rattle.findings.specs.declared.Verdict.TheVariants.{Undefined, Inconsistent, Consistent}
use Rattle.findings.specs.Family.{all_in_order, name_of}
use Rattle.model.specs.Table.{Table}
use Rattle.model.specs.WellFormed.{WellFormed}
use Rattle.model.specs.Findings.{Report, Reports}
use Rattle.model.proofs.Shown.{witness_fits}
use Rattle.text.specs.Text.{each, spaced, spaced_each}
use Rattle.phrases.specs.Phrases.{line}
use Rattle.phrases.proofs.Lengths.{decimal_3, line_length}
use Rattle.lines.specs.Lines.{witness_text, finding_line, lines_of, verdict_text, report_text, events_word, verdict_word}

-- ---- where all that shows a finding is made of records below n, as many as a table may have

module _ {n : ℕ} (few : n ≤ limit) where
  each_short : (l : List ℕ) → Below n l → length (spaced_each l) ≤ 4 * length l
  each_short [] b = omega arith
  each_short (a ∷ l) b =
      omega (arith, length-append (spaced a) (spaced_each l), decimal_3 a (omega (arith, b.0)), each_short l b.1)

  fits_short : {w : Witness} → Fits n w → length (witness_text (Some w)) ≤ 5 + 4 * n
  fits_short (one_inside {r = r} h) = omega (arith, decimal_3 r (omega arith))
  fits_short (two_inside {p = p} h k) =
      omega (
        arith,
        length-append (spaced p.first) (spaced p.second),
        decimal_3 p.first (omega arith),
        decimal_3 p.second (omega arith),
      )
  fits_short (all_inside {c = c} b h) = omega (arith, each_short c b)

  witness_short : {S : Witness → Type 0} {w : Option Witness} → ((v : Witness) → S v → Fits n v) → LeastWitness S w → length (witness_text w) ≤ 5 + 4 * n
  witness_short fits (Least.absent _) = omega arith
  witness_short fits (Least.least {a = v} s _) = fits_short (fits v s)

-- ---- the whole texts

module _ {t : Table} (ok : WellFormed t) (few : t.count ≤ limit) {x : Report} (right : Reports t x) where
  lines_short : (fs : List Finding) → length (lines_of x.witness fs) ≤ length (each name_of fs) + length fs * (6 + 4 * t.count)
  lines_short [] = omega arith
  lines_short (f ∷ fs) =
      omega (
        arith,
        length-append (finding_line x.witness f) (lines_of x.witness fs),
        line_length (name_of f) (witness_text (x.witness f)),
        length-append (name_of f) (each name_of fs),
        witness_short few (λ v. witness_fits ok f) (right.least f),
        suc-mul (length fs) (6 + 4 * t.count),
        lines_short fs,
      )

  pub report_short : length (report_text t.count x.witness x.verdict) ≤ 32 + length all_in_order * (8 + 4 * t.count)
  unfolding report_text
  report_short =
      let first = line events_word (spaced t.count) in
      let findings = lines_of x.witness all_in_order in
      let last = line verdict_word (verdict_text x.verdict) in
      omega (
        arith,
        length-append first (findings ++ last),
        length-append findings last,
        line_length events_word (spaced t.count),
        line_length verdict_word (verdict_text x.verdict),
        decimal_3 t.count (omega arith),
        lines_short all_in_order,
        verdict_short x.verdict,
      )
    where
      verdict_short : (v : Verdict) → length (verdict_text v) ≤ 13
      verdict_short Undefined = omega arith
      verdict_short Inconsistent = omega arith
      verdict_short Consistent = omega arith

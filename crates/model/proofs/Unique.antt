-- The definitions allow one report only.
use mathlib.Core.Path.{◌≡◌, refl}
use Rattle.findings.specs.declared.Finding.TheVariants.{W}
use Rattle.findings.specs.declared.Verdict.{Verdict}
use Rattle.laws.proofs.Witness.{witness_unique}
use Rattle.model.specs.Table.{Table}
use Rattle.model.specs.Findings.{VerdictIs, W_holds, another_holds, none_holds, Report, Reports}

pub one_verdict : {t : Table} {x y : Verdict} → VerdictIs t x → VerdictIs t y → x ≡ y
one_verdict (W_holds w) (W_holds w') = refl
one_verdict (W_holds w) (another_holds no_W f h) = absurd (no_W w)
one_verdict (W_holds w) (none_holds n) = absurd (n W w)
one_verdict (another_holds no_W f h) (W_holds w) = absurd (no_W w)
one_verdict (another_holds no_W f h) (another_holds no_W' g k) = refl
one_verdict (another_holds no_W f h) (none_holds n) = absurd (n f h)
one_verdict (none_holds n) (W_holds w) = absurd (n W w)
one_verdict (none_holds n) (another_holds no_W f h) = absurd (n f h)
one_verdict (none_holds n) (none_holds n') = refl

-- "any two results it allows are equal"
pub one_report : (t : Table) (x y : Report) → Reports t x → Reports t y → x ≡ y
one_report t x y p q =
    let verdict = one_verdict p.verdict q.verdict in
    λ i. record { witness = λ f. witness_unique (p.least f) (q.least f) i; verdict = verdict i }

-- What was found and where its records stand, read again as the witness of a finding.
use Rattle.std.specs.Prelude.{Option, Some}
use mathlib.Core.Path.{◌≡◌, refl, sym, ap, ap₂, subst, ◌∙◌}
use mathlib.Core.Bool.{Bool, true, false, cond}
use mathlib.Core.List.{List}
use Prim.Native.Nat.{ℕ}
use native.Mathlib.Omega.{arith}
use lib.ListN.{length, drop, length-append}
use lib.Seq.{take_at}
use Rattle.laws.specs.Least.{Least}
use Rattle.laws.specs.Witness.{Witness, a_cycle, LeastWitness}
use Rattle.findings.specs.declared.Finding.{Finding}
use Rattle.findings.specs.declared.Finding.TheVariants.{A1, A4}
use Rattle.findings.specs.declared.Found.{Found}
use Rattle.findings.specs.declared.Findings.{Findings}
use Rattle.findings.specs.Family.{name_of, in_second, found_of}
use Rattle.findings.specs.Meant.{Means, record_of, pair_of, cycle_of, lent}
use Rattle.model.specs.Table.{Table}
use Rattle.model.specs.Findings.{Shows, Report, Reports}
use Rattle.phrases.specs.Phrases.{line}
use Rattle.lines.specs.Lines.{witness_text, finding_line}
use Rattle.lines.specs.Witnesses.{witness_in, Whole, buffer_of, witnesses, AllWhole}
use Rattle.model.proofs.Shown.{Stands, no_buffer_for_one, no_buffer_for_two, in_its_buffer, stands}

-- one line, by what was found of the finding and the buffer of its cycle
module _ (x : Findings) (first second : List ℕ) (f : Finding) {found : Found} {records : List ℕ} (is_found : found ≡ found_of x f) (is_records : records ≡ buffer_of f first second) where
  pub line_is : line (name_of f) (witness_text (witness_in found records)) ≡ finding_line (witnesses x first second) f
  line_is = ap₂ (λ (y : Found) (l : List ℕ). line (name_of f) (witness_text (witness_in y l))) is_found is_records

  pub whole_is : AllWhole x first second → Whole found records
  whole_is w =
      subst (λ (y : Found). Whole y records) (sym is_found) (subst (Whole (found_of x f)) (sym is_records) (w.whole f))

-- what was found and the buffer give the witness w
record Gives (x : Found) (records : List ℕ) (w : Option Witness) : Type 0 where
  witness : witness_in x records ≡ w
  whole : Whole x records

lent_gives : {x : Found} {w : Option Witness} (before : List ℕ) → Means x w → Gives x (lent w before) w
lent_gives before Means.nothing = record { witness = refl; whole = tt }
lent_gives before record_of = record { witness = refl; whole = tt }
lent_gives before pair_of = record { witness = refl; whole = tt }
lent_gives before (cycle_of {len = len} {c = c} e) = record {
  witness = ap (λ (l : List ℕ). Some (a_cycle l)) (take_at c (drop (length c) before) len (sym e));
  whole = omega (arith, e, length-append c (drop (length c) before));
}

-- the witness of each finding, where the cycle of A1 stands in the first buffer and that of A4 in the second
module _ {t : Table} {x : Findings} {report : Report} (before₁ before₂ : List ℕ) (right : Reports t report) (means : (f : Finding) → Means (found_of x f) (report.witness f)) where
  abbrev first : List ℕ
  first = lent (report.witness A1) before₁

  abbrev second : List ℕ
  second = lent (report.witness A4) before₂

  its_buffer : (s : Bool) → cond s second first ≡ lent (report.witness (cond s A4 A1)) (cond s before₂ before₁)
  its_buffer true = refl
  its_buffer false = refl

  -- the buffer of a cycle holds it
  holds_it :
      (f : Finding) {w : Option Witness} → w ≡ report.witness f → f ≡ cond (in_second f) A4 A1 → buffer_of f first second ≡ lent w (buffer_of f before₁ before₂)
  holds_it f e one =
      its_buffer (in_second f)
      ∙ ap (λ (v : Option Witness). lent v (buffer_of f before₁ before₂)) (ap report.witness (sym one) ∙ sym e)

  one_gives :
      (f : Finding) {y : Found} {w : Option Witness} → LeastWitness (Shows t f) w → w ≡ report.witness f → Means y w → Gives y (buffer_of f first second) w
  one_gives f (Least.absent _) e Means.nothing = record { witness = refl; whole = tt }
  one_gives f (Least.least s _) e m = go (stands t f s) e m
    where
      go : {v : Witness} {y : Found} → Stands f v → Some v ≡ report.witness f → Means y (Some v) → Gives y (buffer_of f first second) (Some v)
      go no_buffer_for_one e record_of = record { witness = refl; whole = tt }
      go no_buffer_for_two e pair_of = record { witness = refl; whole = tt }
      go {v} {y} (in_its_buffer one) e m =
          subst (λ (l : List ℕ). Gives y l (Some v)) (sym (holds_it f e one)) (lent_gives (buffer_of f before₁ before₂) m)

  pub witnesses_are : witnesses x first second ≡ report.witness
  witnesses_are = λ i f. (one_gives f (right.least f) refl (means f)).witness i

  pub all_whole : AllWhole x first second
  all_whole = record { whole = λ f. (one_gives f (right.least f) refl (means f)).whole }

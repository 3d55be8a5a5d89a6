-- E1 to E11 are true of the definitions: one statement over the list of them, by the computed mirror.
use Rattle.std.specs.Prelude.{Option, None, Some}
use mathlib.Core.Path.{◌≡◌, refl, ap, subst, ◌∙◌}
use mathlib.Core.List.{List, [], ◌∷◌, map}
use lib.Dec.{T}
use lib.ListN.{get_or}
use Rattle.findings.specs.declared.Finding.{Finding}
use Rattle.findings.specs.Family.{all_in_order, place_of}
use Rattle.findings.proofs.Family.{at_place}
use Rattle.laws.specs.Says.{any_below}
use Rattle.laws.specs.Witness.{Witness, LeastWitness}
use Rattle.model.specs.Table.{listed}
use Rattle.model.specs.WellFormed.{WellFormed}
use Rattle.model.specs.Findings.{Shows, VerdictIs}
use Rattle.model.specs.Examples.{Example, Right, Each, examples, E1, E2, E3, E4, E5, E6, E7, E8, E9, E10, E11}
use Rattle.model.proofs.Verdicts.{verdict_by, verdict_is}
use Rattle.model.proofs.Refusals.{well_formed?, well_formed_says}
use Rattle.model.proofs.MirrorReport.{mirrored, mirrored_least}

-- the witnesses of some findings, each brought to none or some before it is compared: else the comparison computes too much
abbrev put : Option Witness → List (Option Witness) → List (Option Witness)
put None l = None ∷ l
put (Some v) l = Some v ∷ l

abbrev pub witnesses : (Finding → Option Witness) → List Finding → List (Option Witness)
witnesses w [] = []
witnesses w (f ∷ fs) = put (w f) (witnesses w fs)

put_is : (x : Option Witness) (l : List (Option Witness)) → put x l ≡ x ∷ l
put_is None l = refl
put_is (Some v) l = refl

witnesses_are : (w : Finding → Option Witness) (l : List Finding) → witnesses w l ≡ map w l
witnesses_are w [] = refl
witnesses_are w (f ∷ fs) = put_is (w f) (witnesses w fs) ∙ ap (λ (l : List (Option Witness)). w f ∷ l) (witnesses_are w fs)

-- the mirror finds the report's witnesses, and they ask for its verdict
pub right :
    (e : Example) → T (well_formed? (listed e.table)) → mirrored (listed e.table) ≡ witnesses e.report.witness all_in_order
    → verdict_by e.report.witness ≡ e.report.verdict → Right e
right e h found judged = record {
  well_formed = ok;
  reports = record { least = least; verdict = subst (VerdictIs (listed e.table)) judged (verdict_is least) };
}
  where
    ok : WellFormed (listed e.table)
    ok = (well_formed_says e.table).to h

    each : (f : Finding) → get_or (mirrored (listed e.table)) (place_of f) None ≡ e.report.witness f
    each f =
        ap (λ (l : List (Option Witness)). get_or l (place_of f) None) (found ∙ witnesses_are e.report.witness all_in_order)
        ∙ at_place e.report.witness None f

    least : (f : Finding) → LeastWitness (Shows (listed e.table) f) (e.report.witness f)
    least f = subst (LeastWitness (Shows (listed e.table) f)) (each f) (mirrored_least ok f)

pub examples_right : Each Right examples
unfolding well_formed? mirrored any_below
examples_right = (
  right E1 tt refl refl,
  (right E2 tt refl refl, (right E3 tt refl refl, (right E4 tt refl refl, (right E5 tt refl refl, (right E6 tt refl refl, (right E7 tt refl refl, (right E8 tt refl refl, (right E9 tt refl refl, (right E10 tt refl refl, (right E11 tt refl refl, tt)))))))))),
)

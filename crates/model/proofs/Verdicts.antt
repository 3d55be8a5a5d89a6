-- The verdict, from the least witness of each finding or none.
use Rattle.std.specs.Prelude.{Option, None, Some}
use mathlib.Core.Path.{◌≡◌, refl, sym, subst, ◌∙◌}
use mathlib.Core.List.{List, [], ◌∷◌, map}
use Prim.Native.Nat.{ℕ, zero, suc}
use lib.ListN.{get_or}
use Rattle.findings.specs.declared.Finding.{Finding}
use Rattle.findings.specs.declared.Finding.TheVariants.{W}
use Rattle.findings.specs.declared.Verdict.{Verdict}
use Rattle.findings.specs.declared.Verdict.TheVariants.{Undefined, Inconsistent, Consistent}
use Rattle.findings.specs.Family.{all_in_order, place_of}
use Rattle.findings.proofs.Family.{at_place}
use Rattle.laws.specs.Witness.{Witness, LeastWitness}
use Rattle.laws.proofs.Witness.{shown, denied_all}
use Rattle.model.specs.Table.{Table}
use Rattle.model.specs.Findings.{Shows, Holds, VerdictIs, W_holds, another_holds, none_holds}

-- a finding holds exactly where it has a least witness
pub holds_by : {t : Table} (f : Finding) {x : Option Witness} {v : Witness} → LeastWitness (Shows t f) x → x ≡ Some v → Holds t f
holds_by {t} f {v = v} l e = record { witness = v; shows = shown (subst (LeastWitness (Shows t f)) e l) }

pub holds_not : {t : Table} (f : Finding) {x : Option Witness} → LeastWitness (Shows t f) x → x ≡ None → ¬ Holds t f
holds_not {t} f l e h = denied_all (subst (LeastWitness (Shows t f)) e l) h.witness h.shows

module _ {t : Table} {w : Finding → Option Witness} (least : (f : Finding) → LeastWitness (Shows t f) (w f)) where
  pub undefined_by : {v : Witness} → w W ≡ Some v → VerdictIs t Undefined
  undefined_by e = W_holds (holds_by W (least W) e)

  pub inconsistent_by : (f : Finding) {v : Witness} → w W ≡ None → w f ≡ Some v → VerdictIs t Inconsistent
  inconsistent_by f n e = another_holds (holds_not W (least W) n) f (holds_by f (least f) e)

  pub consistent_by : ((f : Finding) → w f ≡ None) → VerdictIs t Consistent
  consistent_by n = none_holds (λ f. holds_not f (least f) (n f))

-- ---- by computation

abbrev if_found : Option Witness → Verdict → Verdict → Verdict
if_found (Some v) x y = x
if_found None x y = y

-- inconsistent if one of these findings has a witness
abbrev otherwise : (Finding → Option Witness) → List Finding → Verdict
otherwise w [] = Consistent
otherwise w (f ∷ fs) =
    let rest = otherwise w fs in
    if_found (w f) Inconsistent rest

abbrev pub verdict_by : (Finding → Option Witness) → Verdict
verdict_by w =
    let rest = otherwise w all_in_order in
    if_found (w W) Undefined rest

module _ {t : Table} {w : Finding → Option Witness} (least : (f : Finding) → LeastWitness (Shows t f) (w f)) where
  -- where W has no witness
  otherwise_is :
      w W ≡ None → (l : List Finding) → (((place : ℕ) → get_or (map w l) place None ≡ None) → VerdictIs t Consistent) → VerdictIs t (otherwise w l)
  otherwise_is no_W [] all = all (λ place. refl)
  otherwise_is no_W (f ∷ fs) all = go (w f) refl (otherwise_is no_W fs)
    where
      each : w f ≡ None → ((place : ℕ) → get_or (map w fs) place None ≡ None) → (place : ℕ) → get_or (map w (f ∷ fs)) place None ≡ None
      each e h zero = e
      each e h (suc place) = h place

      go :
          (x : Option Witness) → w f ≡ x → ((((place : ℕ) → get_or (map w fs) place None ≡ None) → VerdictIs t Consistent) → VerdictIs t (otherwise w fs))
          → VerdictIs t (if_found x Inconsistent (otherwise w fs))
      go (Some v) e rest = inconsistent_by least f no_W e
      go None e rest = rest (λ h. all (each e h))

  pub verdict_is : VerdictIs t (verdict_by w)
  verdict_is = go (w W) refl
    where
      go : (x : Option Witness) → w W ≡ x → VerdictIs t (if_found x Undefined (otherwise w all_in_order))
      go (Some v) e = undefined_by least e
      go None e = otherwise_is e all_in_order (λ h. consistent_by least (λ f. sym (at_place w None f) ∙ h (place_of f)))

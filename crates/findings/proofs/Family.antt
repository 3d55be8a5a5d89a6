-- Every finding has its place in the order of the report.
use mathlib.Core.Path.{◌≡◌, refl}
use mathlib.Core.List.{map}
use Prim.Native.Nat.{ℕ, zero, suc, ◌<◌}
use native.Mathlib.Omega.{arith}
use lib.ListN.{length, get_or}
use Rattle.findings.specs.declared.Finding.{Finding}
use Rattle.findings.specs.declared.Finding.TheVariants.{R, A1, A2, A3, A4, A5, W}
use Rattle.findings.specs.declared.Findings.{Findings}
use Rattle.findings.specs.Family.{all_in_order, place_of, finding_at, found_of}

-- what a list says of each finding, in order, it says of the one asked for
pub at_place : {A : Type 0} (g : Finding → A) (d : A) (f : Finding) → get_or (map g all_in_order) (place_of f) d ≡ g f
at_place g d R = refl
at_place g d A1 = refl
at_place g d A2 = refl
at_place g d A3 = refl
at_place g d A4 = refl
at_place g d A5 = refl
at_place g d W = refl

pub place_below : (f : Finding) → place_of f < length all_in_order
place_below R = omega arith
place_below A1 = omega arith
place_below A2 = omega arith
place_below A3 = omega arith
place_below A4 = omega arith
place_below A5 = omega arith
place_below W = omega arith

pub finding_at_lem : (f : Finding) → finding_at (place_of f) ≡ f
finding_at_lem = at_place (λ (f : Finding). f) R

-- and the place of the finding at a place is that place
pub place_at : (k : ℕ) → k < length all_in_order → place_of (finding_at k) ≡ k
place_at zero h = refl
place_at (suc zero) h = refl
place_at (suc (suc zero)) h = refl
place_at (suc (suc (suc zero))) h = refl
place_at (suc (suc (suc (suc zero)))) h = refl
place_at (suc (suc (suc (suc (suc zero))))) h = refl
place_at (suc (suc (suc (suc (suc (suc zero)))))) h = refl
place_at (suc (suc (suc (suc (suc (suc (suc k))))))) h = absurd (omega arith)

-- what was found is known by what was found of each
pub findings_one : {x y : Findings} → ((f : Finding) → found_of x f ≡ found_of y f) → x ≡ y
findings_one same = λ i. record { r = same R i; «a1» = same A1 i; «a2» = same A2 i; «a3» = same A3 i; «a4» = same A4 i; «a5» = same A5 i; w = same W i }

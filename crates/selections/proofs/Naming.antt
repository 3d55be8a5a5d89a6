-- A selection names no record past its bytes, and is refused by what it names where.
use mathlib.Core.Path.{◌≡◌, ap, ◌∙◌}
use mathlib.Core.Bool.{Bool, not, ◌||◌}
use mathlib.Core.List.{List}
use mathlib.Core.Logic.{◌⊎◌, inl, inr}
use Prim.Native.Nat.{ℕ, ◌*◌, ◌/◌, ◌%◌, ◌^◌, ◌<◌, ◌≤◌}
use native.Mathlib.Nat.{zero-div}
use native.Mathlib.Omega.{arith}
use native.Mathlib.Decide.{dec_lt}
use lib.Dec.{T}
use lib.ListN.{length, get_or, get_or-eq_default}
use Rattle.limits.specs.Limit.{limit}
use Rattle.laws.specs.Says.{Says}
use Rattle.laws.proofs.Says.{says_eq, says_not, says_or, says_iff, says_dec, by_dec}
use Rattle.selections.specs.Selection.{selection_size, named, Refused9, empty, past_count, other_size}

pub named_inside : (s : List ℕ) (n : ℕ) → T (named s n) → n < 8 * length s
named_inside s n is = go (dec_lt (n / 8) (length s))
  where
    go : Dec (n / 8 < length s) → n < 8 * length s
    go (yes l) = omega arith
    go (no past) =
        let resting = get_or-eq_default s 0 {n = n / 8} (omega arith) in
        let e = ap (λ (x : ℕ). x / 2 ^ (n % 8)) resting ∙ zero-div (2 ^ (n % 8)) in
        absurd (omega (arith, e, (says_eq (get_or s (n / 8) 0 / 2 ^ (n % 8) % 2) 1).to is))

-- a record is named at or past m
abbrev pub NamedPast : List ℕ → ℕ → Type 0
NamedPast s m = (n : ℕ) × ((m ≤ n) × T (named s n))

module _ {s : List ℕ} {count : ℕ} (right_size : length s ≡ selection_size) {x y : Bool} (any : Says x (NamedPast s 0)) (past : Says y (NamedPast s count)) where
  refused_by : ¬ NamedPast s 0 ⊎ NamedPast s count → Refused9 s count
  refused_by (inl none) = empty (λ n is. none (n, (omega arith, is)))
  refused_by (inr (n, (late, is))) = past_count late is

  tells_refused : Refused9 s count → ¬ NamedPast s 0 ⊎ NamedPast s count
  tells_refused (empty none) = inl (λ (n, (_, is)). none n is)
  tells_refused (past_count {n = n} late is) = inr (n, (late, is))
  tells_refused (other_size other) = absurd (other right_size)

  pub refused_told : Says (not x || y) (Refused9 s count)
  refused_told = says_iff refused_by tells_refused (says_or (says_not any) past)

-- a selection that is not refused has a bit for each record of a table
module _ {s : List ℕ} {n : ℕ} (fine : ¬ Refused9 s n) where
  right_size : length s ≡ selection_size
  right_size = by_dec (says_dec (says_eq (length s) selection_size)) (λ other. fine (other_size other))

  pub bit_for_each : n ≤ limit → n ≤ 8 * length s
  bit_for_each few = omega (arith, right_size)

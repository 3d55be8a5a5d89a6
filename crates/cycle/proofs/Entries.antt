-- Entries of a table after a store.
use mathlib.Core.Path.{◌≡◌, ap, ◌∙◌}
use mathlib.Core.List.{List}
use mathlib.Core.Logic.{◌⊎◌, inl, inr}
use Prim.Native.Nat.{ℕ, ◌<◌}
use native.Mathlib.Decide.{ℕ_discrete}
use lib.ListN.{length, get_or, set}
use lib.Seq.{get_or-set_same, get_or-set_other}

-- the entry stored to holds what was stored, every other what it held
pub after : (l : List ℕ) (p q v : ℕ) → p < length l → ((q ≡ p) × (get_or (set l p v) q 0 ≡ v)) ⊎ (¬ (q ≡ p) × (get_or (set l p v) q 0 ≡ get_or l q 0))
after l p q v h = go (ℕ_discrete q p)
  where
    go : Dec (q ≡ p) → ((q ≡ p) × (get_or (set l p v) q 0 ≡ v)) ⊎ (¬ (q ≡ p) × (get_or (set l p v) q 0 ≡ get_or l q 0))
    go (yes e) = inl (e, ap (λ (x : ℕ). get_or (set l p v) x 0) e ∙ get_or-set_same l p v 0 h)
    go (no ne) = inr (ne, get_or-set_other l p q v 0 ne)

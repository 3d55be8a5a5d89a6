-- The ways to step among SC records.
use mathlib.Core.Path.{◌≡◌}
use mathlib.Core.List.{List}
use mathlib.Core.Logic.{◌⊎◌, inl, inr}
use Prim.Native.Nat.{ℕ}
use lib.ListN.{get_or}
use Rattle.laws.specs.Steps.{Rel}
use Rattle.rows.specs.declared.set.Set.{Set}
use Rattle.rows.specs.Sets.{In, Is}
use Rattle.rows.specs.Rows.{On, MadeRow}
use Rattle.rows.proofs.Rows.{made_row_iff}
use Rattle.combined.specs.Sequential.{StepsBy, StepsBy.at_one_place, StepsBy.by_detour, StepsBy.by_wb, StepsBy.by_over}

module _ {place : List ℕ} {At H D W O : Rel} {a b : ℕ} {Other : Type 0} where
  pub stepping :
      (Other → O a b × (¬ (a ≡ b))) → (Other ⊎ W a b) ⊎ (D a b ⊎ (H a b × At a (get_or place b 0))) → StepsBy place At H D W O a b
  stepping f (inl (inl o)) = by_over (f o).0 (f o).1
  stepping f (inl (inr x)) = by_wb x
  stepping f (inr (inl d)) = by_detour d
  stepping f (inr (inr (h, p))) = at_one_place h p

  pub stepped :
      (O a b × (¬ (a ≡ b)) → Other) → StepsBy place At H D W O a b → (Other ⊎ W a b) ⊎ (D a b ⊎ (H a b × At a (get_or place b 0)))
  stepped f (at_one_place h p) = inr (inr (h, p))
  stepped f (by_detour d) = inr (inl d)
  stepped f (by_wb x) = inl (inr x)
  stepped f (by_over o n) = inl (inl (f (o, n)))

-- a row that was put but for its own number
pub known_others :
    {w b : ℕ} {s : Set w} {over m m' : List (List ℕ)} → Is s (λ a. On w over a b) → MadeRow w b (λ a. In s a × (¬ (a ≡ b))) m m'
    → MadeRow w b (λ a. On w over a b × (¬ (a ≡ b))) m m'
known_others i = made_row_iff (λ a z. (i.only a z.0, z.1)) (λ a z. (i.all a z.0, z.1))

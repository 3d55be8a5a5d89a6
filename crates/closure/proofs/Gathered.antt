-- What x relates to the numbers of a row, while the row is gone along.
use mathlib.Core.Path.{subst}
use mathlib.Core.List.{List}
use mathlib.Core.Logic.{◌⊎◌, inl, inr}
use Prim.Native.Nat.{ℕ, ◌+◌, ◌≤◌, ◌<◌}
use native.Mathlib.Omega.{arith}
use Rattle.laws.proofs.Closure.{tri}
use Rattle.rows.specs.declared.set.Set.{Set}
use Rattle.rows.specs.Sets.{In, Is}
use Rattle.rows.specs.Rows.{On, Cell}
use Rattle.rows.specs.Steps.{Then}
use Rattle.rows.proofs.Along.{Gap, gap_low}
use Rattle.rows.proofs.Sets.{is_iff, either_of}

-- x relates a to a number below v that row b of m has
pub record Gathered (w n : ℕ) (x m : List (List ℕ)) (b v a : ℕ) : Type 0 where
  pub by : Then (Cell w n x) (On w m) a b
  pub low : by.mid < v

module _ {w n : ℕ} {x m : List (List ℕ)} {b v : ℕ} where
  pub gathered_all : {s : Set w} → n ≤ v → Is s (Gathered w n x m b v) → Is s (λ a. Then (Cell w n x) (On w m) a b)
  gathered_all high = is_iff (λ a g. g.by) (λ a t. record { by = t; low = omega (arith, t.first.row) })

  -- none of the row's numbers is between
  pub gathered_next : {s : Set w} {at : ℕ} → Gap w m b at v → Is s (Gathered w n x m b at) → Is s (Gathered w n x m b v)
  gathered_next {at = at} gap = is_iff (λ a g. record { by = g.by; low = omega (arith, g.low, gap.from) }) (λ a g. record { by = g.by; low = gap_low gap g.by.mid g.low g.by.next })

  module _ (low : v < n) (here : On w m v b) where
    more_gathered : (a : ℕ) → Gathered w n x m b v a ⊎ On w x a v → Gathered w n x m b (v + 1) a
    more_gathered a (inl g) = record { by = g.by; low = omega (arith, g.low) }
    more_gathered a (inr o) = record { by = record { mid = v; first = record { row = low; on = o }; next = here }; low = omega arith }

    gathered_or : (a : ℕ) → Gathered w n x m b (v + 1) a → Gathered w n x m b v a ⊎ On w x a v
    gathered_or a g =
        tri g.by.mid v (λ l. inl (record { by = g.by; low = l })) (λ e. inr (subst (On w x a) e g.by.first.on)) (λ l. absurd (omega (arith, l, g.low)))

    -- v too
    pub gathered_more :
        {all there r : Set w} → Is all (Gathered w n x m b v) → Is there (λ a. On w x a v) → Is r (λ a. In all a ⊎ In there a) → Is r (Gathered w n x m b (v + 1))
    gathered_more p q i = is_iff more_gathered gathered_or (either_of p q i)

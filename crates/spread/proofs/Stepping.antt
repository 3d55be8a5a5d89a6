-- Rows of one or more steps: what steps to b, and what came before that.
use mathlib.Core.List.{List}
use mathlib.Core.Logic.{◌⊎◌, inl, inr, ⊎_map, ⊎_elim}
use Prim.Native.Nat.{ℕ, ◌<◌}
use Rattle.laws.specs.Steps.{Rel, Plus, Plus.one, Plus.more}
use Rattle.rows.specs.declared.set.Set.{Set}
use Rattle.rows.specs.Sets.{In, Is}
use Rattle.rows.specs.Rows.{On, Holds, MadeRow}
use Rattle.rows.specs.Steps.{Leads, ByEither, ByEither.by_first, ByEither.by_second, Then}
use Rattle.rows.proofs.Rows.{made_row_is, made_row_iff, made_row_trans}
use Rattle.rows.proofs.Steps.{then_held}

module _ {S : Rel} {a b : ℕ} where
  last_step : Then (Plus S) S a b ⊎ S a b → Plus S a b
  last_step (inl t) = more t.first t.next
  last_step (inr s) = one s

  by_last_step : Plus S a b → Then (Plus S) S a b ⊎ S a b
  by_last_step (one s) = inr s
  by_last_step (more {m = m} p s) = inl (record { mid = m; first = p; next = s })

module _ {c d : List ℕ} {a b : ℕ} where
  pub by_one_of : Leads c a b ⊎ Leads d a b → ByEither c d a b
  by_one_of = ⊎_elim by_first by_second

  pub one_of : ByEither c d a b → Leads c a b ⊎ Leads d a b
  one_of (by_first l) = inl l
  one_of (by_second l) = inr l

-- a row that takes in P and then Q
pub both_taken_in :
    {w b : ℕ} {P Q : ℕ → Type 0} {m m₁ m₂ : List (List ℕ)} → MadeRow w b (λ a. On w m a b ⊎ P a) m m₁ → MadeRow w b (λ a. On w m₁ a b ⊎ Q a) m₁ m₂
    → MadeRow w b (λ a. On w m a b ⊎ (P a ⊎ Q a)) m m₂
both_taken_in p q =
    made_row_trans p
    (made_row_iff (λ a. ⊎_elim (λ o. ⊎_map (λ x. x) inl (p.only a o)) (λ x. inr (inr x)))
    (λ a. ⊎_elim (λ o. inl (p.all a (inl o))) (⊎_elim (λ x. inl (p.all a (inr x))) inr)) q)

-- the rows below b hold the steps: row b becomes what came before the numbers that step to b, and then takes those in
pub steps_row :
    {w b : ℕ} {S : Rel} {r : Set w} {P : ℕ → Type 0} {m m₁ m₂ : List (List ℕ)} → ((v : ℕ) → S v b → v < b) → ((a : ℕ) → P a → S a b) → ((a : ℕ) → S a b → P a)
    → Holds w b (Plus S) m → Is r (λ a. Then (On w m) S a b) → MadeRow w b (In r) m m₁
    → MadeRow w b (λ a. On w m₁ a b ⊎ P a) m₁ m₂ → MadeRow w b (λ a. Plus S a b) m m₂
steps_row rises to from h i k q =
    let earlier = made_row_is (then_held rises h i) k in
    made_row_trans earlier
    (made_row_iff (λ a x. last_step (⊎_map (earlier.only a) (to a) x)) (λ a p. ⊎_map (earlier.all a) (from a) (by_last_step p)) q)

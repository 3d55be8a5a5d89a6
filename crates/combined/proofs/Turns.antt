-- Ways to a number through its parent.
use mathlib.Core.Path.{sym, subst, ◌∙◌}
use mathlib.Core.List.{List}
use mathlib.Core.Logic.{◌⊎◌, inl, inr}
use Prim.Native.Nat.{ℕ}
use Rattle.laws.specs.Steps.{Rel}
use Rattle.rows.specs.Steps.{Leads}
use Rattle.combined.specs.Sequential.{SamePlace, Turned, Turned.straight, Turned.around, Turned.above}

-- a number has one parent
as_parent : {parent : List ℕ} {p q b : ℕ} → Leads parent p b → (P : ℕ → Type 0) → Leads parent q b → P q → P p
as_parent l P k = subst P (sym k.is ∙ l.is)

module _ {parent place : List ℕ} {E A : Rel} {a p b : ℕ} (l : Leads parent p b) where
  pub turned_above : SamePlace place p b → Turned parent place E A a b → Turned parent place E A a p
  turned_above s (straight k n e) = absurd (as_parent l (λ x. ¬ SamePlace place x b) k n s)
  turned_above s (around k n e) = absurd (as_parent l (λ x. ¬ SamePlace place x b) k n s)
  turned_above s (above k t u) = as_parent l (Turned parent place E A a) k u

  pub turned_apart : ¬ SamePlace place p b → Turned parent place E A a b → E a b ⊎ A a p
  turned_apart n (straight k m e) = inl e
  turned_apart n (around k m e) = inr (as_parent l (A a) k e)
  turned_apart n (above k s u) = absurd (n (as_parent l (λ x. SamePlace place x b) k s))

  pub apart_turned : ¬ SamePlace place p b → E a b ⊎ A a p → Turned parent place E A a b
  apart_turned n (inl e) = straight l n e
  apart_turned n (inr e) = around l n e

pub turned_parent : {parent place : List ℕ} {E A : Rel} {a b : ℕ} → Turned parent place E A a b → (p : ℕ) × Leads parent p b
turned_parent (straight {p = p} k n e) = (p, k)
turned_parent (around {p = p} k n e) = (p, k)
turned_parent (above {p = p} k s u) = (p, k)

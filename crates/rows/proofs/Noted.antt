-- What is noted of the numbers so far, in rows.
use mathlib.Core.Path.{◌≡◌, sym, subst}
use mathlib.Core.List.{List}
use mathlib.Core.Logic.{◌⊎◌, inl, inr, ⊎_map, ⊎_elim}
use Prim.Native.Nat.{ℕ, ◌+◌, ◌<◌}
use native.Mathlib.Omega.{arith}
use native.Mathlib.Decide.{ℕ_discrete}
use Rattle.laws.specs.Steps.{Rel}
use Rattle.rows.specs.Rows.{On, Holds, MadeRow, Made}
use Rattle.rows.proofs.Rows.{made_row_iff, made_again, made_held, holds_iff}

-- rows of R, of which S has b more at most
module _ {w h b : ℕ} (R S : Rel) {m : List (List ℕ)} (up : (a l : ℕ) → R a l → S a l) (down : (a l : ℕ) → S a l → R a l ⊎ (a ≡ b)) (held : Holds w h R m) where
  -- S has b in row l alone, and the row takes it in
  pub noted :
      {l : ℕ} {m' : List (List ℕ)} → l < h → S b l → ((k : ℕ) → S b k → k ≡ l) → MadeRow w l (λ a. On w m a l ⊎ (a ≡ b)) m m' → Made w h S m m'
  noted {l} low here one r =
      made_again l low (λ a k ne. up a k) (λ a k ne s. ⊎_elim (λ x. x) (λ e. absurd (ne (one k (subst (λ (z : ℕ). S z k) e s)))) (down a k s)) (made_held held)
      (made_row_iff (λ a. ⊎_elim (λ o. up a l (held.only a l low o)) (λ e. subst (λ (z : ℕ). S z l) (sym e) here))
      (λ a s. ⊎_map (held.all a l low) (λ e. e) (down a l s)) r)

  -- S has b in no row
  pub not_noted : ((k : ℕ) → k < h → ¬ S b k) → Made w h S m m
  not_noted never =
      made_held
      (holds_iff (λ a k _. up a k) (λ a k l s. ⊎_elim (λ x. x) (λ e. absurd (never k l (subst (λ (z : ℕ). S z k) e s))) (down a k s)) held)

-- a number below b + 1 is below b, or b
pub below_or : {A : Type 0} (a b : ℕ) → a < b + 1 → (a < b → A) → A ⊎ (a ≡ b)
below_or {A} a b l f = by (ℕ_discrete a b)
  where
    by : Dec (a ≡ b) → A ⊎ (a ≡ b)
    by (yes e) = inr e
    by (no n) = inl (f (omega arith))

-- Two questions, of which the second is asked only where the first is answered no.
use mathlib.Core.Path.{◌≡◌}
use mathlib.Core.Logic.{◌⊎◌, inl, inr, ⊎_elim}
use mathlib.Core.Bool.{Bool, true, false}
use Rattle.laws.specs.Says.{Says}
use Rattle.laws.proofs.Says.{said, denied, says_iff}

module _ {x : Bool} {P Q : Type 0} (first : Says x P) where
  pub answered : x ≡ true → Says x (P ⊎ Q)
  answered e = says_iff inl (λ _. said first e) first

  pub next_asked : {y : Bool} → x ≡ false → Says y Q → Says y (P ⊎ Q)
  next_asked e = says_iff inr (⊎_elim (λ p. absurd (denied first e p)) (λ q. q))

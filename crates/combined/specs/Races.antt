-- Races with earlier writes.
use Rattle.std.specs.Prelude.{◌≡◌, List, ◌⊎◌, ℕ, ◌<◌, ◌≤◌, get_or}
use Rattle.laws.specs.Steps.{Rel}

-- a is an earlier write of b's place, one of them NA (the order 0), neither before b by H nor in conflict with it by C
pub record RacesBefore (place kind order : List ℕ) (H C : Rel) (a b : ℕ) : Type 0 where
  pub earlier : a < b
  pub writes : 2 ≤ get_or kind a 0
  pub one_place : get_or place a 0 ≡ get_or place b 0
  pub not_atomic : (get_or order a 0 ≡ 0) ⊎ (get_or order b 0 ≡ 0)
  pub not_before : ¬ H a b
  pub no_conflict : ¬ C a b

-- the same, from those At each place and those that are NA
pub record RacesFrom (place order : List ℕ) (At Na H C : Rel) (a b : ℕ) : Type 0 where
  pub here : At a (get_or place b 0)
  pub not_atomic : Na a 0 ⊎ (get_or order b 0 ≡ 0)
  pub not_before : ¬ H a b
  pub no_conflict : ¬ C a b

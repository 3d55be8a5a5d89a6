-- The steps among SC records, and what they are made of.
use Rattle.std.specs.Prelude.{◌≡◌, List, ℕ, ◌<◌, get_or}
use Rattle.laws.specs.Steps.{Rel}
use Rattle.rows.specs.Steps.{Leads}

-- before b by P, and not At b's place
pub record Elsewhere (place : List ℕ) (P At : Rel) (a b : ℕ) : Type 0 where
  pub before : P a b
  pub not_here : ¬ At a (get_or place b 0)

-- both stand at one of the 32 places
pub record SamePlace (place : List ℕ) (a b : ℕ) : Type 0 where
  pub one : get_or place a 0 ≡ get_or place b 0
  pub some : get_or place b 0 < 32

-- elsewhere before b by E, or around to b's parent by A; where the parent stands at b's place, what so comes to the parent
pub data Turned (parent place : List ℕ) (E A : Rel) (a : ℕ) : ℕ → Type 0 where
  straight : {p b : ℕ} → Leads parent p b → ¬ SamePlace place p b → E a b → Turned parent place E A a b
  around : {p b : ℕ} → Leads parent p b → ¬ SamePlace place p b → A a p → Turned parent place E A a b
  above : {p b : ℕ} → Leads parent p b → SamePlace place p b → Turned parent place E A a p → Turned parent place E A a b

-- how a steps to b among SC records
pub data StepsBy (place : List ℕ) (At H D W O : Rel) (a b : ℕ) : Type 0 where
  at_one_place : H a b → At a (get_or place b 0) → StepsBy place At H D W O a b
  by_detour : D a b → StepsBy place At H D W O a b
  by_wb : W a b → StepsBy place At H D W O a b
  by_over : O a b → ¬ (a ≡ b) → StepsBy place At H D W O a b

-- Of relates each number to its order; 4 is SC
pub record Among (order place : List ℕ) (Of At H D W O : Rel) (a b : ℕ) : Type 0 where
  pub sc_a : Of a 4
  pub sc_b : get_or order b 0 ≡ 4
  pub by : StepsBy place At H D W O a b

-- Rounds of layers: from each number of row e the fewest steps to s are e + 1.
use Rattle.std.specs.Prelude.{◌≡◌, List, Option, Some, None, ℕ, ◌+◌, ◌*◌, ◌<◌, ◌≤◌, length}
use Rattle.laws.specs.Steps.{Rel}
use Rattle.limits.specs.Limit.{limit}
use Rattle.rows.specs.declared.set.Set.{Set}
use Rattle.rows.specs.Sets.{Is}
use Rattle.rows.specs.Rows.{On, Holds, Room, Cell}
use Rattle.cycle.specs.Distances.{Reaches, Wrote}

-- a step between numbers that are alive
pub record Step (w n : ℕ) (m alive : List (List ℕ)) (a b : ℕ) : Type 0 where
  pub left : On w alive a 0
  pub right : On w alive b 0
  pub cell : Cell w n m a b

-- some step goes from a number to one that is not higher
abbrev pub GoesBack : ℕ → ℕ → List (List ℕ) → Type 0
GoesBack w n m = (b : ℕ) × ((a : ℕ) × (Cell w n m a b × (b ≤ a)))

-- a has a step to a number of row e
pub record Enters (w n : ℕ) (m layers : List (List ℕ)) (e a : ℕ) : Type 0 where
  pub to : ℕ
  pub step : Cell w n m a to
  pub on : On w layers to e

-- the fewest steps from a to s are k
pub record Fewest (R : Rel) (s k a : ℕ) : Type 0 where
  pub reach : Reaches R a s k
  pub none : (i : ℕ) → i < k → ¬ Reaches R a s i

-- at most k steps lead from a to s
pub record Upto (R : Rel) (s k a : ℕ) : Type 0 where
  pub steps : ℕ
  pub few : steps ≤ k
  pub reach : Reaches R a s steps

abbrev pub Layers : Rel → ℕ → ℕ → ℕ → List (List ℕ) → Type 0
Layers R w s k layers = Holds w k (λ a e. Fewest R s (e + 1) a) layers

-- r is the least number of steps from s back to s, or the bound; up to there the layers are made
pub record Back (R : Rel) (w s bound r : ℕ) (layers : List (List ℕ)) : Type 0 where
  pub high : r ≤ bound
  pub reach : r < bound → Reaches R s s r
  pub few : (k : ℕ) → Reaches R s s k → r ≤ k
  pub made : r < bound → Layers R w s r layers

-- s is the first number from which the fewest steps lead back, and they are `best`
pub record Chosen (R : Rel) (n s : ℕ) : Type 0 where
  pub best : ℕ
  pub small : best ≤ n
  pub reach : Reaches R s s best
  pub few : (a k : ℕ) → Reaches R a a k → best ≤ k
  pub first : (a k : ℕ) → a < s → Reaches R a a k → best < k

-- such a number, or none where no walk of up to n steps leads back
pub record StartOf (R : Rel) (n : ℕ) (start : Option ℕ) : Type 0 where
  pub none : start ≡ None → (a k : ℕ) → Reaches R a a k → n < k
  pub there : (s : ℕ) → start ≡ Some s → Chosen R n s

-- of what is alive, the numbers from s on are left
pub record Rest (w : ℕ) (alive rest : List (List ℕ)) (s : ℕ) : Type 0 where
  pub all : (a : ℕ) → On w alive a 0 → s ≤ a → On w rest a 0
  pub only : (a : ℕ) → On w rest a 0 → On w alive a 0 × (s ≤ a)

-- the first number of row e that a has a step to, or n
pub record FirstStep (w n : ℕ) (m layers : List (List ℕ)) (e a x : ℕ) : Type 0 where
  pub within : x ≤ n
  pub hit : x < n → On w m a x × On w layers x e
  pub before : (y : ℕ) → y < x → On w layers y e → ¬ On w m a y

-- the least closed walk of the fewest steps from s is written
pub record WroteBack (R : Rel) (s len : ℕ) (before after : List ℕ) : Type 0 where
  pub wrote : Wrote R s len before after
  pub few : (k : ℕ) → Reaches R s s k → len ≤ k

-- ---- what the functions ask

pub record LayerRoom (w n : ℕ) (m alive layers : List (List ℕ)) : Type 0 where
  pub matrix : Room w n n m
  pub row : Room w n 1 alive
  pub low : (a : ℕ) → On w alive a 0 → a < n
  pub room : Room w n (n + 1) layers

pub record Searches (w n : ℕ) (m alive : List (List ℕ)) (s : ℕ) (layers : List (List ℕ)) : Type 0 where
  pub has : LayerRoom w n m alive layers
  pub start : On w alive s 0

-- layers up to e, and a set of what was met in them
pub record Onward (w n : ℕ) (m alive : List (List ℕ)) (met : Set w) (s e : ℕ) (layers : List (List ℕ)) : Type 0 where
  pub has : LayerRoom w n m alive layers
  pub low : e < n
  pub seen : Is met (Upto (Step w n m alive) s (e + 1))
  pub made : Layers (Step w n m alive) w s (e + 1) layers

pub record Choosing (w n : ℕ) (m layers : List (List ℕ)) (e a : ℕ) : Type 0 where
  pub matrix : Room w n n m
  pub row : e < length layers
  pub col : a < 64 * w

-- room for an answer
pub record OutRoom (n : ℕ) (out : List ℕ) : Type 0 where
  pub few : n ≤ limit
  pub room : n ≤ length out

pub record Lends (w n : ℕ) (m layers : List (List ℕ)) (out : List ℕ) : Type 0 where
  pub matrix : Room w n n m
  pub room : Room w n (n + 1) layers
  pub answer : OutRoom n out

pub record LendsAlive (w n : ℕ) (m alive layers : List (List ℕ)) (out : List ℕ) : Type 0 where
  pub has : LayerRoom w n m alive layers
  pub answer : OutRoom n out

-- a start from which at most n steps lead back
pub record Writes (w n : ℕ) (m alive : List (List ℕ)) (s : ℕ) (layers : List (List ℕ)) (out : List ℕ) : Type 0 where
  pub has : Searches w n m alive s layers
  pub back : Upto (Step w n m alive) s n s
  pub answer : OutRoom n out

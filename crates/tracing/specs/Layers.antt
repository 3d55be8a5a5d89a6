-- The fewest steps to one record, by layers: a row of entries, 255 for none.
use Rattle.std.specs.Prelude.{◌≡◌, Bool, true, false, List, ◌⊎◌, ℕ, ◌+◌, ◌<◌, ◌≤◌, length, get_or}
use Rattle.laws.specs.Says.{Says}
use Rattle.laws.specs.Steps.{Rel, Walk}
use Rattle.cycle.specs.Distances.{Reaches}
use Rattle.model.specs.Relations.{Wb0}
use Rattle.table.specs.Events.{events_of}
use Rattle.facts.specs.Sound.{Counted, Placed}

abbrev pub entry : List ℕ → ℕ → ℕ
entry d x = get_or d x 0

-- record x steps to y by R exactly where bool x is true
abbrev pub Column : Rel → ℕ → ℕ → List Bool → Type 0
Column R n y col = (x : ℕ) → x < n → Says (get_or col x false) (R x y)

-- none of the first n has an entry
abbrev pub Blank : ℕ → List ℕ → Type 0
Blank n d = (x : ℕ) → x < n → entry d x ≡ 255

-- the entry d, or k if there is none and c says that there is a step
pub data Nearer (d : ℕ) (c : Bool) (k r : ℕ) : Type 0 where
  reached : d ≡ 255 → c ≡ true → r ≡ k → Nearer d c k r
  had : ¬ (d ≡ 255) → r ≡ d → Nearer d c k r
  no_step : c ≡ false → r ≡ d → Nearer d c k r

-- of the first n, each that the column names and that has no entry gets k
pub record Spread (n k : ℕ) (col : List Bool) (d e : List ℕ) : Type 0 where
  pub at : (x : ℕ) → x < n → Nearer (entry d x) (get_or col x false) k (entry e x)
  pub past : (x : ℕ) → n ≤ x → entry e x ≡ entry d x

-- each entry is the least number of steps of a walk to s
pub record StepsTo (R : Rel) (n s : ℕ) (d : List ℕ) : Type 0 where
  pub low : (x : ℕ) → x < n → entry d x ≤ 255
  pub sound : (x : ℕ) → x < n → entry d x < 255 → Reaches R x s (entry d x)
  pub complete : (x : ℕ) (xs : List ℕ) → Walk R x xs s → entry d x ≤ length xs + 1

-- walks of up to k steps have their entries, and what steps to a record before y of layer k has one too
pub record Layer (R : Rel) (n s k y : ℕ) (d : List ℕ) : Type 0 where
  pub low : (x : ℕ) → x < n → (entry d x ≤ k + 1) ⊎ (entry d x ≡ 255)
  pub sound : (x : ℕ) → x < n → entry d x < 255 → Reaches R x s (entry d x)
  pub complete : (x : ℕ) (xs : List ℕ) → Walk R x xs s → length xs + 1 ≤ k → entry d x ≤ length xs + 1
  pub asked : (x v : ℕ) → v < y → entry d v ≡ k → R x v → entry d x ≤ k + 1

-- the records from y on, before z, have been asked for layer k, whatever s is
abbrev pub Round : Rel → ℕ → ℕ → ℕ → ℕ → List ℕ → List ℕ → Type 0
Round R n k y z d e = (s : ℕ) → Layer R n s k y d → Layer R n s k z e

-- ---- what the functions ask

-- y is one of the n records of a sound table
pub record Numbered (bytes : List ℕ) (n y : ℕ) : Type 0 where
  pub table : Counted bytes n
  pub inside : y < n

-- the fewest steps of wb0 to b, which say what is wb before b, and another record
pub record WbRow (bytes : List ℕ) (n a b : ℕ) (wb : List ℕ) : Type 0 where
  pub at : Placed bytes n a b
  pub steps : StepsTo (Wb0 (events_of bytes)) n b wb

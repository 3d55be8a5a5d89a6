-- Relations on record numbers, one or more steps of one, and its cycles.
use Rattle.std.specs.Prelude.{◌≡◌, List, [], ◌∷◌, ℕ}

-- a relation on record numbers
abbrev pub Rel : Type 1
Rel = ℕ → ℕ → Type 0

-- "one or more steps": from a to b by steps of R, the last step outermost
pub data Plus (R : ℕ → ℕ → Type 0) (a : ℕ) : ℕ → Type 0 where
  one : {b : ℕ} → R a b → Plus R a b
  more : {m b : ℕ} → Plus R a m → R m b → Plus R a b

-- a walk from a to b by way of the records of the list: a step from a to the first, from each to the next, from the last to b
abbrev pub Walk : Rel → ℕ → List ℕ → ℕ → Type 0
Walk R a [] b = R a b
Walk R a (x ∷ xs) b = R a x × Walk R x xs b

-- a is none of the list
abbrev pub NotIn : ℕ → List ℕ → Type 0
NotIn a [] = Unit {0}
NotIn a (x ∷ xs) = ¬ (a ≡ x) × NotIn a xs

-- "a list of different records"
abbrev pub Different : List ℕ → Type 0
Different [] = Unit {0}
Different (x ∷ xs) = NotIn x xs × Different xs

-- "A cycle is a list of different records, each with a step to the next and the last to the first
-- (one record alone if it steps to itself)."
abbrev pub IsCycle : Rel → List ℕ → Type 0
IsCycle R [] = ⊥
IsCycle R (a ∷ xs) = Different (a ∷ xs) × Walk R a xs a

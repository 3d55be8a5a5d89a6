-- Owners, and steps from write to write that are handed on to them.
use Rattle.std.specs.Prelude.{◌≡◌, List, ◌⊎◌, ℕ, ◌<◌, ◌≤◌, length, get_or}
use Rattle.laws.specs.Steps.{Rel, Plus}
use Rattle.rows.specs.Rows.{On, Room, MadeRow, Made}
use Rattle.rows.specs.Steps.{Leads, ByEither, Then}
use Rattle.combined.specs.Columns.{Placed}

-- "w or a reader of w": o owns itself if it writes, and what it is the source of
pub data Owning (kind source : List ℕ) (o : ℕ) : ℕ → Type 0 where
  itself : 2 ≤ get_or kind o 0 → Owning kind source o o
  as_source : {b : ℕ} → Leads source o b → Owning kind source o b

-- a owns something before something that o owns, which a stands at the place of; the two differ
pub record HandedOn (n : ℕ) (parent sync kind source place : List ℕ) (At : Rel) (a o : ℕ) : Type 0 where
  pub of : ℕ
  pub low : of < n
  pub owned : Owning kind source o of
  pub before : Then (Owning kind source) (Plus (ByEither parent sync)) a of
  pub one_place : At a (get_or place of 0)
  pub differ : ¬ (a ≡ o)

-- no row has its own number
pub record NoneItself (w n : ℕ) (m : List (List ℕ)) : Type 0 where
  pub apart : (o : ℕ) → o < n → ¬ On w m o o

-- as it was, or new in the row of an Owner, which is another
pub data Taking (Owner New : ℕ → Type 0) (Was : Rel) (a o : ℕ) : Type 0 where
  kept : Was a o → Taking Owner New Was a o
  new : Owner o → New a → ¬ (a ≡ o) → Taking Owner New Was a o

-- row b of owners takes in each Owner, whose row of out takes in what is New
pub record Handed (w n b : ℕ) (Owner New : ℕ → Type 0) (owners out owners' out' : List (List ℕ)) : Type 0 where
  pub owned : MadeRow w b (λ o. On w owners o b ⊎ Owner o) owners owners'
  pub taken : Made w n (Taking Owner New (On w out)) out out'

-- columns and room for them
pub record OwningRoom (w n : ℕ) (kind source : List ℕ) (owners out : List (List ℕ)) : Type 0 where
  pub kinds : n ≤ length kind
  pub sources : n ≤ length source
  pub for_owners : Room w n n owners
  pub for_out : Room w n n out

pub record HandingRoom (w n : ℕ) (parent sync kind source place : List ℕ) (at owners out : List (List ℕ)) : Type 0 where
  pub placed : Placed n place
  pub parents : n ≤ length parent
  pub syncs : n ≤ length sync
  pub for_at : Room w n 33 at
  pub owning : OwningRoom w n kind source owners out

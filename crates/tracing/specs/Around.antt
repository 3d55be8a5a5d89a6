-- From a out to another record, on by hb, and in to b: the two ways of which wb0 and hbsc speak.
use Rattle.std.specs.Prelude.{◌≡◌, ℕ}
use Rattle.model.specs.Table.{Table, Write, OneLocation}
use Rattle.model.specs.Relations.{Hb, WriteOrReader, PoDiff}

module _ (t : Table) where
  -- hb before w' or a reader of w'
  abbrev pub BeforeOwned : ℕ → ℕ → Type 0
  BeforeOwned from w' = (to : ℕ) × (WriteOrReader t w' to × Hb t from to)

  -- "w or a reader of w is hb before w' or a reader of w'"
  abbrev pub OwnedBefore : ℕ → ℕ → Type 0
  OwnedBefore w w' = (from : ℕ) × (WriteOrReader t w from × BeforeOwned from w')

  -- hb, then po≠
  abbrev pub BeforeElsewhere : ℕ → ℕ → Type 0
  BeforeElsewhere c b = (d : ℕ) × (PoDiff t d b × Hb t c d)

  -- "po≠, then hb, then po≠"
  abbrev pub ElsewhereBefore : ℕ → ℕ → Type 0
  ElsewhereBefore a b = (c : ℕ) × (PoDiff t a c × BeforeElsewhere c b)

  -- "write w to a different write w' of one location"
  pub record TwoWrites (w w' : ℕ) : Type 0 where
    pub write : Write t w
    pub write' : Write t w'
    pub differ : ¬ (w ≡ w')
    pub one_location : OneLocation t w w'

  -- "hb at one location"
  pub record AtOneLocation (a b : ℕ) : Type 0 where
    pub before : Hb t a b
    pub one_location : OneLocation t a b

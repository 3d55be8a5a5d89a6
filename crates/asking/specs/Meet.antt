-- The two parts of a race: what the two records are, and how they stand to each other.
use Rattle.std.specs.Prelude.{◌≡◌, ◌⊎◌, ℕ}
use Rattle.model.specs.Table.{Table, Write, NA, OneLocation}
use Rattle.model.specs.Relations.{Hb, Conflict}

module _ (t : Table) where
  -- "two different records of one location, at least one a write, at least one NA"
  pub record CanRace (a b : ℕ) : Type 0 where
    pub differ : ¬ (a ≡ b)
    pub one_location : OneLocation t a b
    pub a_write : Write t a ⊎ Write t b
    pub a_NA : NA t a ⊎ NA t b

  -- "neither hb the other, not in conflict"
  pub record Unordered (a b : ℕ) : Type 0 where
    pub not_before : ¬ Hb t a b
    pub not_after : ¬ Hb t b a
    pub no_conflict : ¬ Conflict t a b

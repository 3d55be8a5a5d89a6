-- What the search for two sources in conflict is lent.
use Rattle.std.specs.Prelude.{List, ℕ, ◌≤◌, length}
use Rattle.rows.specs.Rows.{Room}

pub record SourceRoom (w n : ℕ) (parent arm source : List ℕ) (readers hb below arms conflicting shows : List (List ℕ)) : Type 0 where
  pub parents : n ≤ length parent
  pub all_arms : n ≤ length arm
  pub sources : n ≤ length source
  pub for_readers : Room w n n readers
  pub for_hb : Room w n n hb
  pub for_below : Room w n n below
  pub for_arms : Room w n n arms
  pub for_conflicting : Room w n n conflicting
  pub for_shows : Room w n n shows

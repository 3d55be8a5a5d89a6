-- The columns of a sound table, and rows of four words, enough for every table: their room, and what is laid in them.
use mathlib.Core.List.{List}
use Prim.Native.Nat.{ℕ, ◌≤◌}
use native.Mathlib.Omega.{arith}
use lib.ListN.{length}
use Rattle.limits.specs.Limit.{limit}
use Rattle.model.specs.Table.{Table}
use Rattle.rows.specs.Rows.{Room}
use Rattle.combined.specs.Columns.{Placed}
use Rattle.columns.specs.Columns.{Columns}
use Rattle.basis.specs.Laid.{Laying, Laid}
use Rattle.edit.specs.Columns.{Judging}

pub four_words : {n h : ℕ} {m : List (List ℕ)} → n ≤ limit → h ≤ length m → Room 4 n h m
four_words few long = record {
  width = record { some = omega arith; most = omega arith };
  wide = omega (arith, few);
  room = long;
}

module _ {t : Table} {n : ℕ} {parent arm source sync place kind order : List ℕ} (c : Columns t n parent arm source sync place kind order) where
  pub placed : Placed n place
  placed = record { all = c.places.long; known = λ b l. let h = c.known.located b l in omega (arith, h, c.places.says b l) }

  pub laying : Laying t n parent arm sync place kind order
  laying = record {
    known = c.known;
    parents = c.parents;
    arms = c.arms;
    syncs = c.syncs;
    places = c.places;
    kinds = c.kinds;
    orders = c.orders;
  }

  pub judging :
      {w : ℕ} {hb cf at race hb' cf' at' race' : List (List ℕ)} → Laid t w n place kind hb cf at race hb' cf' at' race'
      → Judging t w n parent kind source place at' hb' race'
  judging laid = record {
    parents = c.parents;
    reading = record {
      known = c.known;
      kinds = c.kinds;
      sources = c.sources;
      places = c.places;
      by_at = laid.by_at.holds;
      by_hb = laid.by_hb.holds;
      by_race = laid.by_race.holds;
    };
  }

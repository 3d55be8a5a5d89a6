-- What each search stands on, from what they all stand on.
use Rattle.std.specs.Prelude.{Option, None, Some}
use mathlib.Core.Path.{◌≡◌, refl, sym, ap, ◌∙◌}
use mathlib.Core.List.{List}
use Prim.Native.Nat.{ℕ, ◌*◌, ◌<◌, ◌≤◌}
use native.Mathlib.Omega.{arith}
use lib.ListN.{length, get_or}
use Rattle.limits.specs.Limit.{limit}
use Rattle.findings.specs.declared.Found.TheVariants.{Nothing}
use Rattle.findings.proofs.Meant.{found_no_pair}
use Rattle.laws.specs.Least.{Least.absent}
use Rattle.model.specs.Table.{Table, Source}
use Rattle.model.specs.Relations.{Wb0, Conflict}
use Rattle.model.proofs.Facts.{has_source}
use Rattle.model.proofs.Within.{source_within, hb_within}
use Rattle.rows.specs.Rows.{Width, On, Holds, Room}
use Rattle.rows.proofs.Rows.{room_kept, holds_iff}
use Rattle.combined.specs.Columns.{Placed}
use Rattle.cycle.specs.Rounds.{OutRoom}
use Rattle.columns.specs.Columns.{link_number, source_number, place_number, Column, Known, Columns}
use Rattle.columns.proofs.Facts.{below, source_leads}
use Rattle.basis.specs.Laid.{Laying, Laid}
use Rattle.seeking.specs.Reads.{Reading}
use Rattle.seeking.specs.Sequential.{ScRoom, Sequenced}
use Rattle.judge.specs.Answer.{Roomy}
use Rattle.judge.specs.Rooms.{Rooms, Outs, Based, Conflicting, FoundInConflict, Rounding}

module _ {t : Table} {n : ℕ} (k : Known t n) where
  -- a column of places
  pub placed : {place : List ℕ} → Column n (place_number t) place → Placed n place
  placed c = record { all = c.long; known = λ b l. let h = k.located b l in omega (arith, h, c.says b l) }

  -- a number that the column of sources says is that of the source
  said_source : {source : List ℕ} → Column n (source_number t) source → (a s : ℕ) → s < n → a < n → get_or source a 0 ≡ s → Source t s a
  said_source c a s l i e = by (t.at a).source refl
    where
      by : (x : Option ℕ) → (t.at a).source ≡ x → Source t s a
      by None h =
          let z = sym (c.says a i ∙ ap link_number h) ∙ e in
          absurd (omega (arith, z, l, k.few))
      by (Some r) h = has_source k.formed s a (h ∙ ap Some (sym (c.says a i ∙ ap link_number h) ∙ e))

  -- rows of what the column says are rows of the readers of each
  pub readers_held :
      {w : ℕ} {source : List ℕ} {m : List (List ℕ)} → Column n (source_number t) source → Holds w n (λ a s. (a < n) × (get_or source a 0 ≡ s)) m
      → Holds w n (λ a s. Source t s a) m
  readers_held c =
      holds_iff (λ a s l z. said_source c a s l z.0 z.1)
      (λ a s l x. let i = below k ((source_within k.formed).right x) in (i, (source_leads k c i x).is))

module _
    {t : Table} {w n : ℕ} {parent arm source sync place kind order : List ℕ} {hb cf writes race : List (List ℕ)}
    (g : Based t w n parent arm source sync place kind order hb cf writes race)
  where
    pub reading : Reading t w n kind source place writes hb race
    reading = record {
      known = g.columns.known;
      kinds = g.columns.kinds;
      sources = g.columns.sources;
      places = g.columns.places;
      by_at = g.by_writes;
      by_hb = g.by_hb;
      by_race = g.by_race;
    }

    module _ {readers : List (List ℕ)} (held : Holds w n (λ a s. (a < n) × (get_or source a 0 ≡ s)) readers) where
      pub conflicting : Conflicting t w n parent arm source readers hb cf
      conflicting = record {
        known = g.columns.known;
        parents = g.columns.parents;
        arms = g.columns.arms;
        sources = g.columns.sources;
        by_readers = readers_held g.columns.known g.columns.sources held;
        by_hb = g.by_hb;
        by_cf = g.by_cf;
      }

      pub rounding : Rounding t w n parent sync kind source place order hb writes readers
      rounding = record {
        writing = record {
          known = g.columns.known;
          parents = g.columns.parents;
          syncs = g.columns.syncs;
          kinds = g.columns.kinds;
          sources = g.columns.sources;
          places = g.columns.places;
          by_at = g.by_writes;
        };
        orders = g.columns.orders;
        by_hb = g.by_hb;
        by_readers = readers_held g.columns.known g.columns.sources held;
      }

-- where no row of conflict has a number, nothing shows A2 or A3
pub none_in_conflict :
    {t : Table} {w n : ℕ} {parent arm source : List ℕ} {readers hb cf : List (List ℕ)} → Conflicting t w n parent arm source readers hb cf
    → ¬ ((b : ℕ) × ((a : ℕ) × ((b < n) × On w cf a b))) → FoundInConflict t (record { «a2» = Nothing; «a3» = Nothing })
none_in_conflict {t} {n = n} g never = record {
  before = found_no_pair (absent (λ p s. none p.first p.second (below k ((hb_within k.formed).right s.before)) s.conflict));
  sources = found_no_pair (absent (λ p s. none s.s' s.s (below k ((source_within k.formed).left s.source)) s.conflict));
}
  where
    k : Known t n
    k = g.known

    none : (a b : ℕ) → b < n → ¬ Conflict t a b
    none a b l c = never (b, (a, (l, g.by_cf.all a b l c)))

-- with wb0 the steps among SC records are told
pub sequenced :
    {t : Table} {w n : ℕ} {parent sync kind source place order : List ℕ} {hb writes readers wb0 : List (List ℕ)}
    → Rounding t w n parent sync kind source place order hb writes readers → Holds w n (Wb0 t) wb0
    → Sequenced t w n parent sync place order hb writes readers wb0
sequenced {kind = kind} g held = record {
  known = g.writing.known;
  parents = g.writing.parents;
  syncs = g.writing.syncs;
  places = g.writing.places;
  orders = g.orders;
  by_hb = g.by_hb;
  kind = kind;
  kinds = g.writing.kinds;
  by_writes = g.writing.by_at;
  by_readers = g.by_readers;
  by_wb0 = held;
}

-- room in which wb0 was laid and its layers made, and room for an answer
pub sc_room_kept :
    {w n : ℕ} {parent sync place order : List ℕ} {hb writes readers wb0 wb0' wb over at po other around around' detour : List (List ℕ)} {out out' : List ℕ}
    → length wb0' ≡ length wb0 → length around' ≡ length around → OutRoom n out'
    → ScRoom w n parent sync place order hb writes readers wb0 wb over at po other around detour out
    → ScRoom w n parent sync place order hb writes readers wb0' wb over at po other around' detour out'
sc_room_kept e f answer p =
    let turning = p.turning in record {
      turning = record {
        parents = turning.parents;
        syncs = turning.syncs;
        placed = turning.placed;
        for_at = turning.for_at;
        for_po = turning.for_po;
        for_other = turning.for_other;
        for_around = room_kept f turning.for_around;
        for_detour = turning.for_detour;
      };
      orders = p.orders;
      for_hb = p.for_hb;
      for_writes = p.for_writes;
      for_readers = p.for_readers;
      for_wb0 = room_kept e p.for_wb0;
      for_wb = p.for_wb;
      for_over = p.for_over;
      for_layers = room_kept f p.for_layers;
      for_out = answer;
    }

module _ {t : Table} {n : ℕ} {parent arm source sync place kind order : List ℕ} (c : Columns t n parent arm source sync place kind order) where
  pub laying : Laying t n parent arm sync place kind order
  laying =
      record { known = c.known; parents = c.parents; arms = c.arms; syncs = c.syncs; places = c.places; kinds = c.kinds; orders = c.orders }

  pub based :
      {w : ℕ} {hb cf writes race hb' cf' writes' race' : List (List ℕ)} → Laid t w n place kind hb cf writes race hb' cf' writes' race'
      → Based t w n parent arm source sync place kind order hb' cf' writes' race'
  based l = record { columns = c; by_hb = l.by_hb.holds; by_cf = l.by_cf.holds; by_writes = l.by_at.holds; by_race = l.by_race.holds }

-- ---- room

pub outs : {n : ℕ} {first second : List ℕ} → n ≤ limit → Roomy first second → Outs n first second
outs low roomy = record {
  for_first = record { few = low; room = omega (arith, low, roomy.first) };
  for_second = record { few = low; room = omega (arith, low, roomy.second) };
}

-- arrays of zeros, which differ by their length alone
pub rooms_lent :
    {w n : ℕ} {matrix places : List (List ℕ)} → Width w → n ≤ 64 * w → n < length matrix → 33 ≤ length places
    → Rooms w n matrix matrix matrix matrix matrix matrix matrix matrix matrix matrix places places
rooms_lent {w} {n} {matrix} {places} width wide fits high = record {
  for_own = room;
  for_hb = room;
  for_cf = room;
  for_below = room;
  for_arms = room;
  for_race = room;
  for_readers = room;
  for_shows = room;
  for_layers = record { width = width; wide = wide; room = omega arith };
  for_owners = room;
  for_wb0 = room;
  for_writes = of_places;
  for_at = of_places;
}
  where
    room : Room w n n matrix
    room = record { width = width; wide = wide; room = omega arith }

    of_places : Room w n 33 places
    of_places = record { width = width; wide = wide; room = high }

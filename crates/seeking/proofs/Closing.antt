-- wb and what it overtakes, by the closures of rows that hold wb0.
use mathlib.Core.Path.{◌≡◌, sym}
use mathlib.Core.List.{List}
use Prim.Native.Nat.{ℕ, ◌<◌}
use lib.ListN.{get_or}
use Rattle.laws.specs.Steps.{Plus}
use Rattle.laws.proofs.Steps.{plus_to, plus_within}
use Rattle.rows.specs.Rows.{On, Cell, Room, Holds, Made}
use Rattle.rows.specs.Steps.{Then}
use Rattle.rows.proofs.Rows.{holds_iff, made_iff, made_trans, made_room}
use Rattle.closure.specs.Classes.{InClasses}
use Rattle.model.specs.Table.{Table, Source}
use Rattle.model.specs.Relations.{Wb0, Wb}
use Rattle.columns.specs.Columns.{Known}
use Rattle.columns.specs.Sequential.{Overtaken}
use Rattle.columns.proofs.Facts.{writes_kind_lem, one_place}
use Rattle.seeking.specs.Sequential.{Closed, Sequenced}
use Rattle.seeking.proofs.Places.{place_low}
use Rattle.seeking.proofs.Cycles.{wb0_within}

-- a copy has the same classes
pub classes_copied :
    {w n h : ℕ} {class : List ℕ} {members m x x' : List (List ℕ)} → InClasses w n h class members m → Room w n n x → Made w n (On w m) x x' → InClasses w n h class members x'
classes_copied {w} {n} {h} {class} {members} {m} {x} {x'} g room made = record {
  column = g.column;
  known = g.known;
  for_members = g.for_members;
  for_m = made_room room made;
  low = λ a b c. g.low a b (was a b c);
  within = λ a b c. g.within a b (was a b c);
  one_class = λ a b c. g.one_class a b (was a b c);
}
  where
    was : (a b : ℕ) → Cell w n x' a b → Cell w n m a b
    was a b c = record { row = c.row; on = made.holds.only a b c.row c.on }

-- wb0 relates writes of one location: its steps stay at one place
pub wb0_classes :
    {t : Table} {w n : ℕ} {parent sync place order : List ℕ} {hb writes readers wb0 : List (List ℕ)} → Sequenced t w n parent sync place order hb writes readers wb0
    → Room w n 33 writes → Room w n n wb0 → InClasses w n 33 place writes wb0
wb0_classes {t} {w} {n} {place = place} {writes = writes} {wb0 = wb0} g for_writes for_wb0 = record {
  column = g.places.long;
  known = place_low g.known g.places;
  for_members = for_writes;
  for_m = for_wb0;
  low = low;
  within = λ a b c.
      g.by_writes.all b (get_or place a 0) (place_low g.known g.places a (low a b c))
      (record { low = c.row; writes = writes_kind_lem g.known g.kinds c.row (step a b c).write'; at = sym (one_class a b c) });
  one_class = one_class;
}
  where
    step : (a b : ℕ) → Cell w n wb0 a b → Wb0 t a b
    step a b c = g.by_wb0.only a b c.row c.on

    low : (a b : ℕ) → Cell w n wb0 a b → a < n
    low a b c = (wb0_within g.known).left (step a b c)

    one_class : (a b : ℕ) → Cell w n wb0 a b → get_or place a 0 ≡ get_or place b 0
    one_class a b c = one_place g.known g.places (low a b c) c.row (step a b c).one_location

module _ {t : Table} {w n : ℕ} (k : Known t n) where
  module _ {m : List (List ℕ)} (held : Holds w n (Wb0 t) m) where
    pub steps_told : {a b : ℕ} → Plus (Cell w n m) a b → Wb t a b
    steps_told = plus_to (λ a b c. held.only a b c.row c.on)

    pub told_steps : {a b : ℕ} → Wb t a b → Plus (Cell w n m) a b
    told_steps = plus_to (λ a b s. record { row = (wb0_within k).right s; on = held.all a b ((wb0_within k).right s) s })

    pub wb_made : {x x' : List (List ℕ)} → Made w n (Plus (Cell w n m)) x x' → Made w n (Wb t) x x'
    wb_made = made_iff (λ a b l. steps_told) (λ a b l. told_steps)

  module _ {readers : List (List ℕ)} (by : Holds w n (λ a s. Source t s a) readers) where
    -- a reader of what is wb before b
    pub overtaken : {a b v : ℕ} → On w readers a v → Wb t v b → Overtaken t a b
    overtaken {a} {b} {v} o s = record { s = v; source = by.only a v ((plus_within (wb0_within k)).left s) o; before = s }

    pub reads_before : {a b : ℕ} (x : Overtaken t a b) → Cell w n readers a x.s
    reads_before {a} x =
        let l = (plus_within (wb0_within k)).left x.before in
        record { row = l; on = by.all a x.s l x.source }

    -- by rows that rise
    pub closed_risen :
        {m : List (List ℕ)} {order : List ℕ} {wb over wb' over' : List (List ℕ)} → Holds w n (Wb0 t) m → Made w n (Plus (Cell w n m)) wb wb' → Made w n (Then (On w readers) (Plus (Cell w n m))) over over'
        → Closed t w n order wb over wb' over'
    closed_risen held made led = record {
      by_wb = wb_made held made;
      rest = led.rest;
      all = λ a b l e x. led.holds.all a b l (record { mid = x.s; first = (reads_before x).on; next = told_steps held x.before });
      only = λ a b l e o. let z = led.holds.only a b l o in overtaken z.first (steps_told held z.next);
    }

    -- by a copy that is closed, and the readers of each SC record's row of it
    pub closed_gathered :
        {m : List (List ℕ)} {order : List ℕ} {wb over copied wb' over' : List (List ℕ)} → Holds w n (Wb0 t) m → Made w n (On w m) wb copied → Made w n (Plus (Cell w n copied)) copied wb'
        → Made w n (λ a b. (get_or order b 0 ≡ 4) × Then (Cell w n readers) (On w wb') a b) over over' → Closed t w n order wb over wb' over'
    closed_gathered {copied = copied} {wb' = wb'} held copy made gather = record {
      by_wb = made_trans copy by_wb;
      rest = gather.rest;
      all = λ a b l e x. gather.holds.all a b l (e, record { mid = x.s; first = reads_before x; next = by_wb.holds.all x.s b l x.before });
      only = λ a b l e o. let z = (gather.holds.only a b l o).1 in overtaken z.first.on (by_wb.holds.only z.mid b l z.next);
    }
      where
        by_wb : Made w n (Wb t) copied wb'
        by_wb = wb_made (holds_iff (λ a b l. held.only a b l) (λ a b l. held.all a b l) copy.holds) made

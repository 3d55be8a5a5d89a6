-- The steps among SC records, by rows of what they are made of.
use Rattle.std.specs.Prelude.{None}
use mathlib.Core.Path.{◌≡◌}
use mathlib.Core.List.{List}
use Prim.Native.Nat.{ℕ, ◌<◌}
use native.Mathlib.Omega.{arith}
use lib.ListN.{get_or}
use Rattle.laws.specs.Steps.{Rel}
use Rattle.laws.specs.Least.{LeastCycle}
use Rattle.rows.specs.Rows.{On, Holds, Made}
use Rattle.rows.proofs.Rows.{made_iff}
use Rattle.cycle.proofs.Trimming.{none_back}
use Rattle.combined.specs.Sequential.{StepsBy, StepsBy.at_one_place, StepsBy.by_detour, StepsBy.by_wb, StepsBy.by_over, Among}
use Rattle.model.specs.Table.{Table}
use Rattle.model.specs.Relations.{Hb, ScStep}
use Rattle.model.proofs.Facts.{sc_inside}
use Rattle.columns.specs.Columns.{place_number, order_number, Column, Known}
use Rattle.columns.specs.Sequential.{StandsAt, Detour}
use Rattle.columns.proofs.Facts.{below, sc_order}
use Rattle.columns.proofs.Sequential.{among_told, told_among}
use Rattle.seeking.specs.Sequential.{Closed}
use Rattle.seeking.proofs.Places.{place_low}

-- told by other relations
pub steps_by :
    {place : List ℕ} {At At' H H' D D' W W' O O' : Rel} {a b : ℕ} → (At a (get_or place b 0) → At' a (get_or place b 0)) → (H a b → H' a b) → (D a b → D' a b)
    → (W a b → W' a b) → (O a b → O' a b) → StepsBy place At H D W O a b → StepsBy place At' H' D' W' O' a b
steps_by at h d w o (at_one_place x s) = at_one_place (h x) (at s)
steps_by at h d w o (by_detour x) = by_detour (d x)
steps_by at h d w o (by_wb x) = by_wb (w x)
steps_by at h d w o (by_over x differ) = by_over (o x) differ

module _
    {t : Table} {w n : ℕ} (k : Known t n) {place order : List ℕ} {orders : List (List ℕ)} (p : Column n (place_number t) place) (o : Column n (order_number t) order)
    (of : Holds w 5 (λ a l. (a < n) × (get_or order a 0 ≡ l)) orders)
  where
    -- where no record is SC there is no step
    pub none_sc : ((a : ℕ) → ¬ On w orders a 4) → LeastCycle (ScStep t) None
    none_sc empty = none_back (λ z.
        let (b, (a, (s, h))) = z in
        let i = below k (sc_inside k.formed a s.sc_a) in
        empty a (of.all a 4 (omega arith) (i, sc_order k o i s.sc_a)))

    pub sc_made :
        {at hb detour wb over wb₀ over₀ m m' : List (List ℕ)} → Holds w 33 (StandsAt n place) at → Holds w n (Hb t) hb → Holds w n (Detour t) detour
        → Closed t w n order wb₀ over₀ wb over → Made w n (Among order place (On w orders) (On w at) (On w hb) (On w detour) (On w wb) (On w over)) m m'
        → Made w n (ScStep t) m m'
    sc_made at hb detour closed =
        made_iff
        (λ a b l x.
        let z = of.only a 4 (omega arith) x.sc_a in
        among_told k p o l (record {
          sc_a = record { low = z.0; is = z.1 };
          sc_b = x.sc_b;
          by =
              steps_by (at.only a (get_or place b 0) (place_low k p b l)) (hb.only a b l) (detour.only a b l) (closed.by_wb.holds.only a b l)
              (closed.only a b l x.sc_b) x.by;
        }))
        (λ a b l x.
        let z = told_among k p o x in
        record {
          sc_a = of.all a 4 (omega arith) (z.sc_a.low, z.sc_a.is);
          sc_b = z.sc_b;
          by =
              steps_by (at.all a (get_or place b 0) (place_low k p b l)) (hb.all a b l) (detour.all a b l) (closed.by_wb.holds.all a b l)
              (closed.all a b l z.sc_b) z.by;
        })

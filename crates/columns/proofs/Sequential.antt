-- The steps among SC records by columns: po≠, detours, and all steps together.
use mathlib.Core.Path.{◌≡◌, sym, subst, ◌∙◌}
use mathlib.Core.List.{List}
use mathlib.Core.Logic.{⊎_elim}
use Prim.Native.Nat.{ℕ, zero, suc, ◌<◌}
use native.Mathlib.Nat.{not-suc-le-zero}
use native.Mathlib.Omega.{arith}
use native.Mathlib.Decide.{ℕ_discrete, dec_lt}
use lib.ListN.{get_or}
use Rattle.laws.specs.Steps.{Rel, one, more}
use Rattle.rows.specs.Steps.{Then}
use Rattle.combined.specs.Sequential.{Elsewhere, SamePlace, Turned, Turned.straight, Turned.around, Turned.above, StepsBy, StepsBy.at_one_place, StepsBy.by_detour, StepsBy.by_over, Among}
use Rattle.model.specs.Table.{Table, Parent, SC, OneLocation}
use Rattle.model.specs.Relations.{Po, by_po, Hb, Wb, PoDiff, HbscBy, at_one_location, by-po≠, by-po≠-hb-po≠, ScStepBy, by_hbsc, by_fr, ScStep}
use Rattle.model.proofs.Facts.{parent_earlier, sc_inside, location_left}
use Rattle.model.proofs.Laws.{po_iff_parent}
use Rattle.model.proofs.Within.{po_within}
use Rattle.columns.specs.Columns.{no_place, parent_number, place_number, order_number, Column, Known}
use Rattle.columns.specs.Sequential.{StandsAt, Detour, direct, by_way_of_hb, Overtaken}
use Rattle.columns.proofs.Facts.{below, led_by_parent, parent_leads, order_sc, sc_order, one_place, one_location, located}

module _ {t : Table} {n : ℕ} (k : Known t n) {place : List ℕ} (p : Column n (place_number t) place) where
  here_location : {a b : ℕ} → b < n → StandsAt n place a (get_or place b 0) → OneLocation t a b
  here_location l x = one_location k p x.low l (omega (arith, x.at, x.some)) x.at

  location_here : {a b : ℕ} → b < n → OneLocation t a b → StandsAt n place a (get_or place b 0)
  location_here {a} {b} l h =
      let i = below k (location_left k.formed a b h) in
      let e = one_place k p i l h in
      record { low = i; at = e; some = located k p a b l h }

  same_location_lem : {a b : ℕ} → a < n → b < n → SamePlace place a b → OneLocation t a b
  same_location_lem i l x = one_location k p i l (omega (arith, x.one, x.some)) x.one

  -- ---- po≠

  pub elsewhere_told : {a b : ℕ} → b < n → Elsewhere place (Po t) (StandsAt n place) a b → PoDiff t a b
  elsewhere_told l x = record { before = x.before; not_one_location = λ h. x.not_here (location_here l h) }

  pub told_elsewhere : {a b : ℕ} → b < n → PoDiff t a b → Elsewhere place (Po t) (StandsAt n place) a b
  told_elsewhere l x = record { before = x.before; not_here = λ h. x.not_one_location (here_location l h) }

  -- ---- detours

  abbrev Around : Rel
  Around = Then (PoDiff t) (Hb t)

  module _ {parent : List ℕ} (q : Column n (parent_number t) parent) where
    low_parent : {c b : ℕ} → b < n → Parent t c b → c < n
    low_parent {c} {b} l e = let h = parent_earlier k.formed c b e in omega arith

    -- a record at its parent's place is po≠ after what its parent is
    pub elsewhere_on : {a c b : ℕ} → b < n → Parent t c b → SamePlace place c b → PoDiff t a c → PoDiff t a b
    elsewhere_on {a} {c} {b} l e x d = record {
      before = more d.before e;
      not_one_location = λ h.
          let i = low_parent l e in
          let j = below k ((po_within k.formed).left d.before) in
          let f = one_place k p j l h in
          d.not_one_location (one_location k p j i (omega (arith, f, x.some)) (f ∙ sym x.one));
    }

    -- and before it is what is po≠ before the parent, but for the parent itself
    pub elsewhere_back : {a c b : ℕ} → b < n → Parent t c b → SamePlace place c b → PoDiff t a b → PoDiff t a c
    elsewhere_back {a} {c} {b} l e x d = ⊎_elim (λ z. absurd (itself z)) onto ((po_iff_parent t a c b e).0 d.before)
      where
        i : c < n
        i = low_parent l e

        itself : ¬ (a ≡ c)
        itself z = d.not_one_location (subst (λ (y : ℕ). OneLocation t y b) (sym z) (same_location_lem i l x))

        onto : Po t a c → PoDiff t a c
        onto u = record {
          before = u;
          not_one_location = λ h.
              let j = below k ((po_within k.formed).left u) in
              let f = one_place k p j i h in
              d.not_one_location (one_location k p j l (omega (arith, f, x.one, x.some)) (f ∙ x.one));
        }

    detour_on : {a c b : ℕ} → b < n → Parent t c b → SamePlace place c b → Detour t a c → Detour t a b
    detour_on l e x (direct d) = direct (elsewhere_on l e x d)
    detour_on l e x (by_way_of_hb d) =
        by_way_of_hb (record { c = d.c; d = d.d; first = d.first; then = d.then; last = elsewhere_on l e x d.last })

    pub turned_detour : {a b : ℕ} → b < n → Turned parent place (PoDiff t) Around a b → Detour t a b
    turned_detour l (straight x apart d) = direct d
    turned_detour {a} {b} l (around {p = c} x apart z) =
        let e = led_by_parent k q l x in
        by_way_of_hb (record {
          c = z.mid;
          d = c;
          first = z.first;
          then = z.next;
          last = record {
            before = one e;
            not_one_location = λ h. apart (record { one = one_place k p (low_parent l e) l h; some = located k p c b l h });
          };
        })
    turned_detour l (above {p = c} x same z) =
        let e = led_by_parent k q l x in
        detour_on l e same (turned_detour (low_parent l e) z)

    same_dec : (c b : ℕ) → Dec (SamePlace place c b)
    same_dec c b = by (ℕ_discrete (get_or place c 0) (get_or place b 0)) (dec_lt (get_or place b 0) no_place)
      where
        by : Dec (get_or place c 0 ≡ get_or place b 0) → Dec (get_or place b 0 < no_place) → Dec (SamePlace place c b)
        by (yes e) (yes l) = yes (record { one = e; some = l })
        by (yes e) (no l) = no (λ x. l x.some)
        by (no e) d = no (λ x. e x.one)

    -- the parent of what something is po before
    parent_of : {a b : ℕ} → Po t a b → (c : ℕ) × Parent t c b
    parent_of (one {b = b} e) = (_, e)
    parent_of (more {m = m} u e) = (m, e)

    detour_parent : {a b : ℕ} → Detour t a b → (c : ℕ) × Parent t c b
    detour_parent (direct d) = parent_of d.before
    detour_parent (by_way_of_hb d) = parent_of d.last.before

    detour_back : {a c b : ℕ} → b < n → Parent t c b → SamePlace place c b → Detour t a b → Detour t a c
    detour_back l e x (direct d) = direct (elsewhere_back l e x d)
    detour_back l e x (by_way_of_hb d) =
        by_way_of_hb (record { c = d.c; d = d.d; first = d.first; then = d.then; last = elsewhere_back l e x d.last })

    -- to another place than the parent's
    detour_here : {a c b : ℕ} → b < n → Parent t c b → ¬ SamePlace place c b → Detour t a b → Turned parent place (PoDiff t) Around a b
    detour_here l e apart (direct d) = straight (parent_leads k q l e) apart d
    detour_here {a} {c} {b} l e apart (by_way_of_hb d) = around (parent_leads k q l e) apart (record { mid = d.c; first = d.first; next = onto })
      where
        onto : Hb t d.c c
        onto = ⊎_elim (λ z. subst (Hb t d.c) z d.then) (λ u. more d.then (by_po u)) ((po_iff_parent t d.d c b e).0 d.last.before)

    turned_within : (m a b : ℕ) → b < m → b < n → Detour t a b → Turned parent place (PoDiff t) Around a b
    turned_within zero a b h l d = absurd (not-suc-le-zero h)
    turned_within (suc m) a b h l d = by (same_dec (detour_parent d).0 b) (turned_within m)
      where
        c : ℕ
        c = (detour_parent d).0

        e : Parent t c b
        e = (detour_parent d).1

        by : Dec (SamePlace place c b) → ((a b : ℕ) → b < m → b < n → Detour t a b → Turned parent place (PoDiff t) Around a b) → Turned parent place (PoDiff t) Around a b
        by (yes x) ih =
            let g = parent_earlier k.formed c b e in
            above (parent_leads k q l e) x (ih a c (omega arith) (low_parent l e) (detour_back l e x d))
        by (no x) ih = detour_here l e x d

    pub detour_turned : {a b : ℕ} → b < n → Detour t a b → Turned parent place (PoDiff t) Around a b
    detour_turned {a} {b} = turned_within (suc b) a b (omega arith)

  -- ---- all steps together

  module _ {order : List ℕ} (o : Column n (order_number t) order) where
    -- a has the order l
    pub record Ordered (a l : ℕ) : Type 0 where
      pub low : a < n
      pub is : get_or order a 0 ≡ l

    abbrev AmongSc : Rel
    AmongSc = Among order place Ordered (StandsAt n place) (Hb t) (Detour t) (Wb t) (Overtaken t)

    pub among_told : {a b : ℕ} → b < n → AmongSc a b → ScStep t a b
    among_told {a} {b} l x = record { sc_a = sc_a; sc_b = sc_b; by = by x.by }
      where
        sc_a : SC t a
        sc_a = order_sc k o x.sc_a.low x.sc_a.is

        sc_b : SC t b
        sc_b = order_sc k o l x.sc_b

        hbsc : HbscBy t a b → ScStepBy t a b
        hbsc h = by_hbsc (record { sc_a = sc_a; sc_b = sc_b; by = h })

        by : StepsBy place (StandsAt n place) (Hb t) (Detour t) (Wb t) (Overtaken t) a b → ScStepBy t a b
        by (at_one_place h s) = hbsc (at_one_location h (here_location l s))
        by (by_detour (direct d)) = hbsc (by-po≠ d)
        by (by_detour (by_way_of_hb d)) = hbsc (by-po≠-hb-po≠ d)
        by (StepsBy.by_wb w) = ScStepBy.by_wb w
        by (by_over r differ) = by_fr (record { s = r.s; source = r.source; before = r.before; differ = differ })

    pub told_among : {a b : ℕ} → ScStep t a b → AmongSc a b
    told_among {a} {b} x = record {
      sc_a = record { low = below k (sc_inside k.formed a x.sc_a); is = sc_order k o (below k (sc_inside k.formed a x.sc_a)) x.sc_a };
      sc_b = sc_order k o l x.sc_b;
      by = by x.by;
    }
      where
        l : b < n
        l = below k (sc_inside k.formed b x.sc_b)

        hbsc : HbscBy t a b → StepsBy place (StandsAt n place) (Hb t) (Detour t) (Wb t) (Overtaken t) a b
        hbsc (at_one_location h s) = at_one_place h (location_here l s)
        hbsc (by-po≠ d) = by_detour (direct d)
        hbsc (by-po≠-hb-po≠ d) = by_detour (by_way_of_hb d)

        by : ScStepBy t a b → StepsBy place (StandsAt n place) (Hb t) (Detour t) (Wb t) (Overtaken t) a b
        by (by_hbsc h) = hbsc h.by
        by (ScStepBy.by_wb w) = StepsBy.by_wb w
        by (by_fr r) = by_over (record { s = r.s; source = r.source; before = r.before }) r.differ

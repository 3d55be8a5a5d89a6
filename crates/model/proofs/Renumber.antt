-- A renumbering: the records of one table are records of another under other numbers. Order, conflict and race are kept, both ways.
use mathlib.Core.Path.{◌≡◌, refl, sym, ap, subst, subst₂, ◌∙◌}
use mathlib.Core.Logic.{◌↔◌}
use Prim.Native.Nat.{ℕ}
use Rattle.laws.specs.Steps.{Rel}
use Rattle.laws.proofs.Steps.{Back, plus_map, plus_back}
use Rattle.model.specs.Table.{Table, Inside, Parent, Source, NoSource, Releasing}
use Rattle.model.specs.Relations.{Po, AtOrAbove, equal, above, Apart, Conflict, PoOrSw, by_po, by_sw, Hb, Race}
use Rattle.model.specs.Cut.{link_by, renumbered}
use Rattle.model.proofs.Links.{link_back_lem, absent_back}

-- record i of t' is record f i of t, its parent and source under their numbers in t
pub record Renumbering (t' t : Table) (f : ℕ → ℕ) : Type 0 where
  pub injective : (i j : ℕ) → f i ≡ f j → i ≡ j
  pub inside : (i : ℕ) → Inside t' i ↔ Inside t (f i)
  pub carried : (i : ℕ) → t.at (f i) ≡ renumbered f (t'.at i)

-- what R' relates, R relates under the other numbers
abbrev pub Along : (ℕ → ℕ) → Rel → Rel → Type 0
Along f R' R = (a b : ℕ) → R' a b → R (f a) (f b)

-- and the other way round
abbrev pub Alike : (ℕ → ℕ) → Rel → Rel → Type 0
Alike f R' R = (a b : ℕ) → R' a b ↔ R (f a) (f b)

pub record Related (t' t : Table) (f : ℕ → ℕ) : Type 0 where
  pub same_po : Alike f (Po t') (Po t)
  pub same_hb : Alike f (Hb t') (Hb t)
  pub same_conflict : Alike f (Conflict t') (Conflict t)
  pub same_race : Alike f (Race t') (Race t)
  pub parent_along : Along f (Parent t') (Parent t)
  pub source_along : Along f (Source t') (Source t)
  pub source_back : (s r : ℕ) → Source t s (f r) → Back f (Source t') (Source t) s r
  pub no_source_back : (r : ℕ) → NoSource t (f r) → NoSource t' r

-- t' with the threads and events of t, so that a word on them is one in t' and in t by computation
abbrev pub pulled : (t' t : Table) (f : ℕ → ℕ) → Table
pulled t' t f = record {
  count = t'.count;
  at = λ i. record { thread = (t.at (f i)).thread; parent = (t'.at i).parent; source = (t'.at i).source; event = (t.at (f i)).event };
}

module _ (t' t : Table) (f : ℕ → ℕ) (N : Renumbering t' t f) where
  open N use {injective, inside, carried}

  abbrev p : Table
  p = pulled t' t f

  pub pulled_is : p ≡ t'
  pulled_is = λ j. record {
    count = t'.count;
    at = λ i. record { thread = (carried i j).thread; parent = (t'.at i).parent; source = (t'.at i).source; event = (carried i j).event };
  }

  -- both ends are images
  between : {R S : ℕ → ℕ → Type 0} {a b : ℕ} → Back f R S (f a) b → R a b
  between {R} {a = a} {b = b} h = subst (λ (x : ℕ). R x b) (injective h.a a h.image) h.step

  parent_along : (a b : ℕ) → Parent p a b → Parent t (f a) (f b)
  parent_along a b h = ap (λ r. r.parent) (carried b) ∙ ap (link_by f) h

  parent_back : (x b : ℕ) → Parent t x (f b) → Back f (Parent p) (Parent t) x b
  parent_back x b h =
      let l = link_back_lem f (t'.at b).parent x (sym (ap (λ r. r.parent) (carried b)) ∙ h) in
      record { a = l.a; image = l.image; step = l.is }

  source_along : (a b : ℕ) → Source p a b → Source t (f a) (f b)
  source_along a b h = record { reads = h.reads; is = ap (λ r. r.source) (carried b) ∙ ap (link_by f) h.is }

  source_back : (x b : ℕ) → Source t x (f b) → Back f (Source p) (Source t) x b
  source_back x b h =
      let l = link_back_lem f (t'.at b).source x (sym (ap (λ r. r.source) (carried b)) ∙ h.is) in
      record { a = l.a; image = l.image; step = record { reads = h.reads; is = l.is } }

  no_source_back : (b : ℕ) → NoSource t (f b) → NoSource p b
  no_source_back b h = absent_back f (t'.at b).source (sym (ap (λ r. r.source) (carried b)) ∙ h)

  po_along : (a b : ℕ) → Po p a b → Po t (f a) (f b)
  po_along a b = plus_map f parent_along

  po_back : (x b : ℕ) → Po t x (f b) → Back f (Po p) (Po t) x b
  po_back x b = plus_back f parent_back

  po_between : (a b : ℕ) → Po t (f a) (f b) → Po p a b
  po_between a b h = between (po_back (f a) b h)

  at_or_above_along : (a b : ℕ) → AtOrAbove p a b → AtOrAbove t (f a) (f b)
  at_or_above_along a b (equal i) = equal ((inside a).0 i)
  at_or_above_along a b (above h) = above (po_along a b h)

  at_or_above_back : {x y : ℕ} → AtOrAbove t x y → (b : ℕ) → y ≡ f b → Back f (AtOrAbove p) (AtOrAbove t) x b
  at_or_above_back (equal i) b e =
      record { a = b; image = sym e; step = equal ((inside b).1 (subst (Inside t) e i)) }
  at_or_above_back {x} (above h) b e =
      let k = po_back x b (subst (Po t x) e h) in
      record { a = k.a; image = k.image; step = above k.step }

  apart_along : (a b : ℕ) → Apart p a b → Apart t (f a) (f b)
  apart_along a b h = record {
    one_thread = h.one_thread;
    differ = λ e. h.differ (injective a b e);
    not_above = λ o. h.not_above (po_between a b o);
    not_below = λ o. h.not_below (po_between b a o);
  }

  apart_between : (a b : ℕ) → Apart t (f a) (f b) → Apart p a b
  apart_between a b h = record {
    one_thread = h.one_thread;
    differ = λ e. h.differ (ap f e);
    not_above = λ o. h.not_above (po_along a b o);
    not_below = λ o. h.not_below (po_along b a o);
  }

  conflict_along : (a b : ℕ) → Conflict p a b → Conflict t (f a) (f b)
  conflict_along a b h = record {
    a' = f h.a';
    b' = f h.b';
    above_a = at_or_above_along h.a' a h.above_a;
    above_b = at_or_above_along h.b' b h.above_b;
    apart = apart_along h.a' h.b' h.apart;
  }

  conflict_between : (a b : ℕ) → Conflict t (f a) (f b) → Conflict p a b
  conflict_between a b h =
      let x = at_or_above_back h.above_a a refl in
      let y = at_or_above_back h.above_b b refl in
      record {
        a' = x.a;
        b' = y.a;
        above_a = x.step;
        above_b = y.step;
        apart = apart_between x.a y.a (subst₂ (Apart t) (sym x.image) (sym y.image) h.apart);
      }

  po_or_sw_along : (a b : ℕ) → PoOrSw p a b → PoOrSw t (f a) (f b)
  po_or_sw_along a b (by_po h) = by_po (po_along a b h)
  po_or_sw_along a b (by_sw h) =
      by_sw (record { source = source_along a b h.source; releasing = h.releasing; acquiring = h.acquiring })

  po_or_sw_back : (x b : ℕ) → PoOrSw t x (f b) → Back f (PoOrSw p) (PoOrSw t) x b
  po_or_sw_back x b (by_po h) = let k = po_back x b h in record { a = k.a; image = k.image; step = by_po k.step }
  po_or_sw_back x b (by_sw h) =
      let k = source_back x b h.source in
      record {
        a = k.a;
        image = k.image;
        step = by_sw (record { source = k.step; releasing = subst (Releasing t) (sym k.image) h.releasing; acquiring = h.acquiring });
      }

  hb_along : (a b : ℕ) → Hb p a b → Hb t (f a) (f b)
  hb_along a b = plus_map f po_or_sw_along

  hb_between : (a b : ℕ) → Hb t (f a) (f b) → Hb p a b
  hb_between a b h = between (plus_back f po_or_sw_back h)

  race_along : (a b : ℕ) → Race p a b → Race t (f a) (f b)
  race_along a b h = record {
    differ = λ e. h.differ (injective a b e);
    one_location = h.one_location;
    a_write = h.a_write;
    a_NA = h.a_NA;
    not_before = λ o. h.not_before (hb_between a b o);
    not_after = λ o. h.not_after (hb_between b a o);
    no_conflict = λ c. h.no_conflict (conflict_between a b c);
  }

  race_between : (a b : ℕ) → Race t (f a) (f b) → Race p a b
  race_between a b h = record {
    differ = λ e. h.differ (ap f e);
    one_location = h.one_location;
    a_write = h.a_write;
    a_NA = h.a_NA;
    not_before = λ o. h.not_before (hb_along a b o);
    not_after = λ o. h.not_after (hb_along b a o);
    no_conflict = λ c. h.no_conflict (conflict_along a b c);
  }

  pub related_pulled : Related p t f
  related_pulled = record {
    same_po = λ a b. (po_along a b, po_between a b);
    same_hb = λ a b. (hb_along a b, hb_between a b);
    same_conflict = λ a b. (conflict_along a b, conflict_between a b);
    same_race = λ a b. (race_along a b, race_between a b);
    parent_along = parent_along;
    source_along = source_along;
    source_back = source_back;
    no_source_back = no_source_back;
  }

-- po and hb by columns of parents and of sw.
use mathlib.Core.List.{List}
use Prim.Native.Nat.{ℕ, ◌<◌}
use native.Mathlib.Omega.{arith}
use Rattle.laws.specs.Steps.{Rel, Plus, one, more}
use Rattle.laws.proofs.Steps.{plus_trans}
use Rattle.rows.proofs.Steps.{either_rises}
use Rattle.rows.specs.Steps.{Leads, ByEither, ByEither.by_first, ByEither.by_second, Star, Star.here, Star.on}
use Rattle.model.specs.Table.{Table}
use Rattle.model.specs.Relations.{Po, AtOrAbove, equal, above, PoOrSw, by_po, by_sw, Hb}
use Rattle.model.proofs.Facts.{parent_earlier, source_is_earlier_write}
use Rattle.model.proofs.Within.{po_rises}
use Rattle.columns.specs.Columns.{parent_number, sync_number, Column, Known}
use Rattle.columns.proofs.Facts.{inside, led_by_parent, parent_leads, led_by_sync, sync_leads}

-- steps that rise, each told of numbers below n by others
pub plus_below :
    {n : ℕ} {R S : Rel} → ((a b : ℕ) → R a b → a < b) → ((a b : ℕ) → b < n → R a b → S a b) → {a b : ℕ} → b < n → Plus R a b → Plus S a b
plus_below rises f {a} {b} l (one r) = one (f a b l r)
plus_below {n} rises f {a} {b} l (more {m = m} p r) =
    let h = rises m b r in
    let k : m < n = omega arith in
    more (plus_below rises f k p) (f m b l r)

leads_rises : {c : List ℕ} (a b : ℕ) → Leads c a b → a < b
leads_rises a b x = x.falls

module _ {t : Table} {n : ℕ} (k : Known t n) {parent : List ℕ} (p : Column n (parent_number t) parent) where
  -- ---- po

  pub po_told : {a b : ℕ} → b < n → Plus (Leads parent) a b → Po t a b
  po_told = plus_below leads_rises (λ a b l. led_by_parent k p l)

  pub told_po : {a b : ℕ} → b < n → Po t a b → Plus (Leads parent) a b
  told_po = plus_below (parent_earlier k.formed) (λ a b l. parent_leads k p l)

  pub star_told : {a b : ℕ} → b < n → Star (Leads parent) a b → AtOrAbove t a b
  star_told l here = equal (inside k l)
  star_told l (on x) = above (po_told l x)

  pub told_star : {a b : ℕ} → b < n → AtOrAbove t a b → Star (Leads parent) a b
  told_star l (equal i) = here
  told_star l (above u) = on (told_po l u)

  -- ---- hb

  module _ {sync : List ℕ} (s : Column n (sync_number t) sync) where
    pub step_told : (a b : ℕ) → b < n → ByEither parent sync a b → PoOrSw t a b
    step_told a b l (by_first x) = by_po (one (led_by_parent k p l x))
    step_told a b l (by_second x) = by_sw (led_by_sync k s l x)

    pub hb_told : {a b : ℕ} → b < n → Plus (ByEither parent sync) a b → Hb t a b
    hb_told = plus_below (λ a b. either_rises) step_told

    steps_of : (a b : ℕ) → b < n → PoOrSw t a b → Plus (ByEither parent sync) a b
    steps_of a b l (by_po u) = plus_below leads_rises (λ a b l. by_first) l (told_po l u)
    steps_of a b l (by_sw x) = one (by_second (sync_leads k s l x))

    step_rises : (a b : ℕ) → PoOrSw t a b → a < b
    step_rises a b (by_po u) = po_rises k.formed u
    step_rises a b (by_sw x) = (source_is_earlier_write k.formed x.source).earlier

    pub told_hb : {a b : ℕ} → b < n → Hb t a b → Plus (ByEither parent sync) a b
    told_hb l (one {b = b} x) = steps_of _ b l x
    told_hb {a} l (more {m = m} {b = b} h x) =
        let r = step_rises m b x in
        let i : m < n = omega (arith, r, l) in
        plus_trans (told_hb i h) (steps_of m b l x)

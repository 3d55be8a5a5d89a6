-- Who stands at each place, po≠ and the detours, by rows.
use mathlib.Core.Path.{◌≡◌}
use mathlib.Core.List.{List}
use Prim.Native.Nat.{ℕ, ◌<◌}
use native.Mathlib.Omega.{arith}
use lib.ListN.{get_or}
use Rattle.laws.specs.Steps.{Rel, Plus}
use Rattle.laws.proofs.Steps.{plus_rises}
use Rattle.rows.specs.declared.set.Set.{Set}
use Rattle.rows.specs.Sets.{In, Is}
use Rattle.rows.specs.Rows.{On, Holds, MadeRow, Made}
use Rattle.rows.specs.Steps.{Leads, ByEither, Then}
use Rattle.rows.proofs.Rows.{made_iff, made_more, made_row_iff}
use Rattle.rows.proofs.Steps.{either_rises}
use Rattle.combined.specs.Sequential.{Elsewhere, Turned, Turned.straight, Turned.around, Turned.above}
use Rattle.model.specs.Table.{Table}
use Rattle.model.specs.Relations.{Po, Hb, PoDiff}
use Rattle.model.proofs.Within.{hb_rises}
use Rattle.columns.specs.Columns.{parent_number, sync_number, place_number, Column, Known}
use Rattle.columns.specs.Sequential.{StandsAt, Detour}
use Rattle.columns.proofs.Before.{po_told, told_po, hb_told, told_hb}
use Rattle.columns.proofs.Sequential.{elsewhere_told, told_elsewhere, turned_detour, detour_turned}
use Rattle.seeking.proofs.Places.{place_low}

-- the rows of the 32 places, and an empty one
pub stands_made :
    {w n : ℕ} {place : List ℕ} {at at₁ at₂ : List (List ℕ)} {s : Set w} → Made w 32 (λ a l. (a < n) × (get_or place a 0 ≡ l)) at at₁ → Is s (λ a. ⊥)
    → MadeRow w 32 (In s) at₁ at₂ → Made w 33 (StandsAt n place) at at₂
stands_made sorted none put =
    made_more (made_iff (λ a l h z. record { low = z.0; at = z.1; some = h }) (λ a l h x. (x.low, x.at)) sorted)
    (made_row_iff (λ a z. absurd (none.only a z)) (λ a x. absurd (omega (arith, x.some))) put)

-- told by other relations
pub elsewhere_by :
    {place : List ℕ} {P P' At At' : Rel} {a b : ℕ} → (P a b → P' a b) → (At' a (get_or place b 0) → At a (get_or place b 0)) → Elsewhere place P At a b
    → Elsewhere place P' At' a b
elsewhere_by f g x = record { before = f x.before; not_here = λ h. x.not_here (g h) }

pub turned_by :
    {n : ℕ} {parent place : List ℕ} {E E' A A' : Rel} {a : ℕ} → ((b : ℕ) → b < n → E a b → E' a b) → ((b : ℕ) → b < n → A a b → A' a b) → {b : ℕ} → b < n
    → Turned parent place E A a b → Turned parent place E' A' a b
turned_by f g {b} l (straight x apart e) = straight x apart (f b l e)
turned_by {n} f g {b} l (around {p = p} x apart z) =
    let h = x.falls in
    around x apart (g p (omega arith) z)
turned_by {n} f g {b} l (above {p = p} x same z) =
    let h = x.falls in
    let i : p < n = omega arith in
    above x same (turned_by f g i z)

module _ {t : Table} {w n : ℕ} (k : Known t n) {parent place : List ℕ} (q : Column n (parent_number t) parent) (p : Column n (place_number t) place) where
  pub po_made : {m m' : List (List ℕ)} → Made w n (Plus (Leads parent)) m m' → Made w n (Po t) m m'
  po_made = made_iff (λ a b l. po_told k q l) (λ a b l. told_po k q l)

  pub elsewhere_made :
      {po at m m' : List (List ℕ)} → Holds w n (Po t) po → Holds w 33 (StandsAt n place) at → Made w n (Elsewhere place (On w po) (On w at)) m m' → Made w n (PoDiff t) m m'
  elsewhere_made po at =
      made_iff (λ a b l x. elsewhere_told k p l (elsewhere_by (po.only a b l) (at.all a (get_or place b 0) (place_low k p b l)) x))
      (λ a b l x. elsewhere_by (po.all a b l) (at.only a (get_or place b 0) (place_low k p b l)) (told_elsewhere k p l x))

  pub around_made :
      {sync : List ℕ} {other m m' : List (List ℕ)} → Column n (sync_number t) sync → Holds w n (PoDiff t) other → Made w n (Then (On w other) (Plus (ByEither parent sync))) m m'
      → Made w n (Then (PoDiff t) (Hb t)) m m'
  around_made s other =
      made_iff
      (λ a b l x.
      let h = plus_rises (λ a b. either_rises) x.next in
      record { mid = x.mid; first = other.only a x.mid (omega (arith, h, l)) x.first; next = hb_told k q s l x.next })
      (λ a b l x.
      let h = hb_rises k.formed x.next in
      record { mid = x.mid; first = other.all a x.mid (omega (arith, h, l)) x.first; next = told_hb k q s l x.next })

  pub detour_made :
      {other around m m' : List (List ℕ)} → Holds w n (PoDiff t) other → Holds w n (Then (PoDiff t) (Hb t)) around → Made w n (Turned parent place (On w other) (On w around)) m m'
      → Made w n (Detour t) m m'
  detour_made other led =
      made_iff (λ a b l x. turned_detour k p q l (turned_by (other.only a) (led.only a) l x))
      (λ a b l x. turned_by (other.all a) (led.all a) l (detour_turned k p q l x))

-- What is handed on from write to write is wb0.
use mathlib.Core.List.{List}
use Prim.Native.Nat.{ℕ, ◌<◌}
use lib.ListN.{get_or}
use Rattle.laws.specs.Steps.{Rel}
use Rattle.rows.specs.Rows.{On, Made}
use Rattle.rows.proofs.Rows.{made_iff}
use Rattle.combined.specs.Writes.{HandedOn}
use Rattle.model.specs.Table.{Table}
use Rattle.model.specs.Relations.{Wb0}
use Rattle.columns.proofs.Writes.{handed_told, told_handed}
use Rattle.seeking.specs.Writes.{Writing}
use Rattle.seeking.proofs.Places.{place_low}

-- told by another relation of places
handed_by :
    {n : ℕ} {parent sync kind source place : List ℕ} {A B : Rel} {a o : ℕ} → ((b : ℕ) → b < n → A a (get_or place b 0) → B a (get_or place b 0))
    → HandedOn n parent sync kind source place A a o → HandedOn n parent sync kind source place B a o
handed_by f x =
    record { of = x.of; low = x.low; owned = x.owned; before = x.before; one_place = f x.of x.low x.one_place; differ = x.differ }

module _ {t : Table} {w n : ℕ} {parent sync kind source place : List ℕ} {at : List (List ℕ)} (g : Writing t w n parent sync kind source place at) where
  pub wb0_made : {m m' : List (List ℕ)} → Made w n (HandedOn n parent sync kind source place (On w at)) m m' → Made w n (Wb0 t) m m'
  wb0_made =
      made_iff
      (λ a o l x. handed_told g.known g.kinds g.sources g.places g.parents g.syncs (handed_by (λ b i. g.by_at.only a (get_or place b 0) (place_low g.known g.places b i)) x))
      (λ a o l x. handed_by (λ b i. g.by_at.all a (get_or place b 0) (place_low g.known g.places b i)) (told_handed g.known g.kinds g.sources g.places g.parents g.syncs x))

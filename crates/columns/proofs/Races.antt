-- Races with earlier writes by columns of codes, and by hb and conflict.
use mathlib.Core.List.{List}
use mathlib.Core.Logic.{inl, ⊎_map}
use Prim.Native.Nat.{ℕ, ◌<◌}
use native.Mathlib.Omega.{arith}
use Rattle.laws.specs.Steps.{Rel}
use Rattle.combined.specs.Races.{RacesBefore}
use Rattle.model.specs.Table.{Table}
use Rattle.model.specs.Relations.{Hb, Conflict, EarlierRace}
use Rattle.model.proofs.Within.{hb_rises}
use Rattle.columns.specs.Columns.{place_number, kind_number, order_number, Column, Known}
use Rattle.columns.proofs.Facts.{write_located, kind_writes, writes_kind_lem, order_na, na_order, one_place, one_location}

-- told by other relations
pub races_by :
    {place kind order : List ℕ} {H H' C C' : Rel} {a b : ℕ} → (H' a b → H a b) → (C' a b → C a b) → RacesBefore place kind order H C a b
    → RacesBefore place kind order H' C' a b
races_by f g r = record {
  earlier = r.earlier;
  writes = r.writes;
  one_place = r.one_place;
  not_atomic = r.not_atomic;
  not_before = λ h. r.not_before (f h);
  no_conflict = λ c. r.no_conflict (g c);
}

module _
    {t : Table} {n : ℕ} (k : Known t n) {place kind order : List ℕ}
    (p : Column n (place_number t) place) (d : Column n (kind_number t) kind) (o : Column n (order_number t) order) {a b : ℕ} (l : b < n)
  where
    pub races_told : RacesBefore place kind order (Hb t) (Conflict t) a b → EarlierRace t a b
    races_told r =
        let e = r.earlier in
        let i : a < n = omega arith in
        let w = kind_writes k d i r.writes in
        record {
          earlier = e;
          write = w;
          race = record {
            differ = λ q. omega (arith, q);
            one_location = one_location k p i l (write_located k p i w) r.one_place;
            a_write = inl w;
            a_NA = ⊎_map (order_na k o i) (order_na k o l) r.not_atomic;
            not_before = r.not_before;
            not_after = λ h. let q = hb_rises k.formed h in omega arith;
            no_conflict = r.no_conflict;
          };
        }

    pub told_races : EarlierRace t a b → RacesBefore place kind order (Hb t) (Conflict t) a b
    told_races r =
        let e = r.earlier in
        let i : a < n = omega arith in
        record {
          earlier = e;
          writes = writes_kind_lem k d i r.write;
          one_place = one_place k p i l r.race.one_location;
          not_atomic = ⊎_map (na_order k o i) (na_order k o l) r.race.a_NA;
          not_before = r.race.not_before;
          no_conflict = r.race.no_conflict;
        }

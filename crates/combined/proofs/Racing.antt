-- Races with the numbers so far, of which writes and NA records are noted.
use mathlib.Core.Path.{◌≡◌}
use mathlib.Core.List.{List}
use mathlib.Core.Logic.{◌⊎◌, ⊎_map}
use Prim.Native.Nat.{ℕ, ◌+◌, ◌<◌}
use native.Mathlib.Omega.{arith}
use lib.ListN.{get_or}
use Rattle.laws.specs.Steps.{Rel}
use Rattle.rows.specs.Rows.{On, Holds}
use Rattle.rows.proofs.Noted.{below_or}
use Rattle.combined.specs.Columns.{WritesAt, OfOrder}
use Rattle.combined.specs.Races.{RacesBefore, RacesFrom}

module _ {kind place : List ℕ} {b : ℕ} where
  pub write_up : (a l : ℕ) → WritesAt b kind place a l → WritesAt (b + 1) kind place a l
  write_up a l x = record { low = omega (arith, x.low); writes = x.writes; at = x.at }

  pub write_down : (a l : ℕ) → WritesAt (b + 1) kind place a l → WritesAt b kind place a l ⊎ (a ≡ b)
  write_down a l x = below_or a b x.low (λ j. record { low = j; writes = x.writes; at = x.at })

module _ {order : List ℕ} {b : ℕ} where
  pub order_up : (a l : ℕ) → OfOrder b order a l → OfOrder (b + 1) order a l
  order_up a l x = record { low = omega (arith, x.low); is = x.is }

  pub order_down : (a l : ℕ) → OfOrder (b + 1) order a l → OfOrder b order a l ⊎ (a ≡ b)
  order_down a l x = below_or a b x.low (λ j. record { low = j; is = x.is })

-- races with the writes so far, by the NA records so far
module _
    {w b : ℕ} {place kind order : List ℕ} {at na : List (List ℕ)} {H C : Rel} (writes : Holds w 33 (WritesAt b kind place) at) (nas : Holds w 1 (OfOrder b order) na)
    (low : get_or place b 0 < 33)
    {a : ℕ}
  where
    pub races_before : RacesFrom place order (On w at) (On w na) H C a b → RacesBefore place kind order H C a b
    races_before r =
        let write = writes.only a (get_or place b 0) low r.here in
        record {
          earlier = write.low;
          writes = write.writes;
          one_place = write.at;
          not_atomic = ⊎_map (λ o. (nas.only a 0 (omega arith) o).is) (λ e. e) r.not_atomic;
          not_before = r.not_before;
          no_conflict = r.no_conflict;
        }

    pub races_from : RacesBefore place kind order H C a b → RacesFrom place order (On w at) (On w na) H C a b
    races_from r = record {
      here = writes.all a (get_or place b 0) low (record { low = r.earlier; writes = r.writes; at = r.one_place });
      not_atomic = ⊎_map (λ e. nas.all a 0 (omega arith) (record { low = r.earlier; is = e })) (λ e. e) r.not_atomic;
      not_before = r.not_before;
      no_conflict = r.no_conflict;
    }

-- Two sources in conflict, by the readers of what conflicts with a source.
use mathlib.Core.Path.{◌≡◌}
use mathlib.Core.List.{List}
use Prim.Native.Nat.{ℕ, ◌<◌}
use native.Mathlib.Omega.{arith}
use Rattle.rows.specs.Rows.{On, Holds, Made}
use Rattle.rows.specs.Steps.{Leads, Then}
use Rattle.spread.specs.Apart.{Apart}
use Rattle.model.specs.Table.{Table, Source}
use Rattle.model.specs.Relations.{Hb}
use Rattle.model.specs.Findings.{ShowsA3}
use Rattle.model.proofs.Facts.{one_source}
use Rattle.columns.specs.Columns.{parent_number, arm_number, source_number, Column, Known}
use Rattle.columns.proofs.Apart.{apart_conflicts, conflict_apart}
use Rattle.columns.proofs.Shown.{a3_told, told_a3}

module _
    {t : Table} {w n : ℕ} {parent arm source : List ℕ} {readers m₀ m : List (List ℕ)} (k : Known t n) (p : Column n (parent_number t) parent) (c : Column n (arm_number t) arm)
    (s : Column n (source_number t) source) (held : Holds w n (λ a v. Source t v a) readers) (made : Made w n (Apart n parent arm (On w readers)) m₀ m)
  where
    single : (a v u : ℕ) → v < n → u < n → On w readers a v → On w readers a u → v ≡ u
    single a v u i j x y = one_source t (held.only a v i x) (held.only a u j y)

    module _ {a q : ℕ} (l : q < n) where
      pub sources_told : Hb t a q → Then (On w m) (Leads source) a q → ShowsA3 t a q
      sources_told h x =
          let f = x.next.falls in
          let i : x.mid < n = omega arith in
          let z = apart_conflicts k p c single i (made.holds.only a x.mid i x.first) in
          a3_told k s l h (record {
            mid = x.mid;
            first = record { with = z.with; low = z.low; related = held.only a z.with z.low z.related; conflict = z.conflict };
            next = x.next;
          })

      pub told_sources : ShowsA3 t a q → Then (On w m) (Leads source) a q
      told_sources x =
          let z = (told_a3 k s l x).1 in
          let f = z.next.falls in
          let i : z.mid < n = omega arith in
          let r = z.first in
          record {
            mid = z.mid;
            first =
                made.holds.all a z.mid i
                (conflict_apart k p c single i (record { with = r.with; low = r.low; related = held.all a r.with r.low r.related; conflict = r.conflict }));
            next = z.next;
          }

-- What columns and rows tell of a kept record: whether it lacks its parent, its source or its racing write.
use mathlib.Core.Bool.{Bool, not, ◌&&◌}
use mathlib.Core.List.{List}
use Prim.Native.Nat.{ℕ, ◌<◌}
use native.Mathlib.Omega.{arith}
use lib.Dec.{T}
use Rattle.laws.specs.Says.{Says}
use Rattle.laws.proofs.Says.{says_not, says_and, says_iff}
use Rattle.selections.specs.Selection.{named}
use Rattle.model.specs.Table.{Table}
use Rattle.model.specs.Relations.{StandsOnRace}
use Rattle.model.specs.Cut.{Complete}
use Rattle.rows.specs.Rows.{On}
use Rattle.rows.specs.Steps.{Leads}
use Rattle.columns.proofs.Facts.{inside, led_by_parent, parent_leads, led_by_source, source_leads}
use Rattle.seeking.specs.Reads.{Reading}
use Rattle.edit.specs.Columns.{Judging}
use Rattle.edit.specs.Cut.{RaceKept, Lacking}

-- record b of the table t, and the selection s
module _ (s : List ℕ) {t : Table} {w n b : ℕ} {kind source place : List ℕ} {at hb race : List (List ℕ)} (l : b < n) where
  pub race_kept_told :
      {r : Bool} → Reading t w n kind source place at hb race → Says r ((a : ℕ) × ((a < n) × (T (named s a) × On w race a b)))
      → Says r (RaceKept (named s) t b)
  race_kept_told g =
      says_iff (λ (a, (_, (k, o))). (a, (k, g.by_race.only a b l o)))
      (λ (a, (k, e)). (a, (omega (arith, e.earlier, l), (k, g.by_race.all a b l e))))

  module _ {parent : List ℕ} (j : Judging t w n parent kind source place at hb race) {x y z k : Bool}
      (by_parent : Says x ((a : ℕ) → Leads parent a b → T (named s a)))
      (by_source : Says y ((a : ℕ) → Leads source a b → T (named s a)))
      (by_race : Says z (StandsOnRace t b → RaceKept (named s) t b))
      (by_name : Says k (T (named s b)))
    where
      complete_told : Says ((x && y) && z) (Complete (named s) t b)
      complete_told =
          let known = j.reading.known in
          says_iff
          (λ ((x, y), z). record {
            parent = λ p e. x p (parent_leads known j.parents l e);
            source = λ p c. y p (source_leads known j.reading.sources l c);
            racing_write = z;
          })
          (λ c. (
            (λ p x. c.parent p (led_by_parent known j.parents l x), λ p x. c.source p (led_by_source known j.reading.sources l x)),
            c.racing_write,
          ))
          (says_and (says_and by_parent by_source) by_race)

      pub lacking_told : Says (k && not ((x && y) && z)) (Lacking (named s) t b)
      lacking_told =
          says_iff (λ (is, not). record { inside = inside j.reading.known l; kept = is; incomplete = not }) (λ x. (x.kept, x.incomplete))
          (says_and by_name (says_not complete_told))

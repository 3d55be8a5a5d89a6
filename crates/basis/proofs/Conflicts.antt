-- Conflict by columns: what stands under another arm, or nothing where there are no two arms.
use mathlib.Core.Path.{◌≡◌, refl, sym, subst, ◌∙◌}
use mathlib.Core.List.{List}
use Prim.Native.Nat.{ℕ, ◌<◌}
use Rattle.laws.specs.Steps.{Rel}
use Rattle.spread.specs.Apart.{Apart, Forks}
use Rattle.spread.proofs.Forking.{apart_forks}
use Rattle.rows.specs.Rows.{On, Holds, Made}
use Rattle.rows.proofs.Rows.{made_iff}
use Rattle.model.specs.Table.{Table}
use Rattle.model.specs.Relations.{Conflict}
use Rattle.model.proofs.Within.{above_within}
use Rattle.columns.specs.Columns.{parent_number, arm_number, Column, Known}
use Rattle.columns.proofs.Facts.{below}
use Rattle.columns.proofs.Apart.{apart_conflicts, conflict_apart}

module _ {t : Table} {n : ℕ} (k : Known t n) {parent arm : List ℕ} (p : Column n (parent_number t) parent) (c : Column n (arm_number t) arm) where
  -- X relates each number to itself alone
  module _ {X : Rel} (own : (a : ℕ) → a < n → X a a) (alone : (a v : ℕ) → v < n → X a v → a ≡ v) where
    single : (a v u : ℕ) → v < n → u < n → X a v → X a u → v ≡ u
    single a v u i j x y = sym (alone a v i x) ∙ alone a u j y

    conflict_told : {a b : ℕ} → b < n → Apart n parent arm X a b → Conflict t a b
    conflict_told {a} {b} l x =
        let z = apart_conflicts k p c single l x in
        subst (λ (v : ℕ). Conflict t v b) (sym (alone a z.with z.low z.related)) z.conflict

    told_conflict : {a b : ℕ} → b < n → Conflict t a b → Apart n parent arm X a b
    told_conflict {a} l x =
        let low = below k ((above_within k.formed).right x.above_a) in
        conflict_apart k p c single l (record { with = a; low = low; related = own a low; conflict = x })

  pub conflict_made :
      {w : ℕ} {itself m m' : List (List ℕ)} → Holds w n ◌≡◌ itself → Made w n (Apart n parent arm (On w itself)) m m' → Made w n (Conflict t) m m'
  conflict_made {w} {itself} h = made_iff (λ a b. conflict_told own h.only) (λ a b. told_conflict own h.only)
    where
      own : (a : ℕ) → a < n → On w itself a a
      own a l = h.all a a l refl

  pub no_conflict : {w : ℕ} {m m' : List (List ℕ)} → ¬ Forks n arm → Made w n (λ a b. ⊥) m m' → Made w n (Conflict t) m m'
  no_conflict none = made_iff (λ a b l x. absurd x) (λ a b l x. none (apart_forks l (told_conflict {X = ◌≡◌} (λ a _. refl) (λ a v _ e. e) l x)))

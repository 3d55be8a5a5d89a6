-- Conflict by columns of parents and of arms: what stands under another arm of a branch.
use mathlib.Core.Path.{◌≡◌, refl, sym, subst, ◌∙◌}
use mathlib.Core.List.{List}
use mathlib.Core.Logic.{◌⊎◌, inl, inr, ⊎_elim}
use Prim.Native.Nat.{ℕ, zero, suc, ◌+◌, ◌<◌}
use native.Mathlib.Omega.{arith}
use native.Mathlib.Nat.{not-suc-le-zero}
use Rattle.laws.specs.Steps.{Rel, one, more}
use Rattle.spread.specs.Apart.{Under, Apart}
use Rattle.model.specs.Table.{Table, Inside, Parent, IsInit}
use Rattle.model.specs.Relations.{Po, AtOrAbove, equal, above, Conflict}
use Rattle.model.specs.WellFormed.{WellFormed}
use Rattle.model.proofs.Facts.{parent_earlier, thread_of_parent}
use Rattle.model.proofs.Laws.{conflict_below, po_iff_parent}
use Rattle.model.proofs.Within.{po_within, above_within}
use Rattle.links.specs.Arms.{Arms}
use Rattle.links.proofs.Branches.{arms_apart, not_init, parent_within, apart_conflict, ByBranch, conflict_iff_branch}
use Rattle.columns.specs.Columns.{parent_number, arm_number, Column, Known}
use Rattle.columns.proofs.Facts.{inside, below, led_by_arm, arm_leads}
use Rattle.columns.proofs.Before.{star_told, told_star}

module _ {t : Table} (ok : WellFormed t) where
  onto_child : {a p b : ℕ} → AtOrAbove t a p → Parent t p b → AtOrAbove t a b
  onto_child (equal i) e = above (one e)
  onto_child (above u) e = above (more u e)

  above_self : {a b : ℕ} → AtOrAbove t a b → (a ≡ b) ⊎ Po t a b
  above_self (equal i) = inl refl
  above_self (above u) = inr u

  -- ---- a branch above two records that conflict

  pub record Branch (a b : ℕ) : Type 0 where
    pub arm_a : ℕ
    pub arm_b : ℕ
    pub above_a : AtOrAbove t arm_a a
    pub above_b : AtOrAbove t arm_b b
    pub arms : Arms t arm_a arm_b

  branch_within : (m a b : ℕ) → a + b < m → Inside t a → Inside t b → Conflict t a b → Branch a b
  branch_within zero a b l i j c = absurd (not-suc-le-zero l)
  branch_within (suc m) a b l i j c = by ((conflict_iff_branch ok i j).0 c) (branch_within m)
    where
      by : ByBranch t a b → ((a b : ℕ) → a + b < m → Inside t a → Inside t b → Conflict t a b → Branch a b) → Branch a b
      by (inr x) ih = record { arm_a = a; arm_b = b; above_a = equal i; above_b = equal j; arms = x }
      by (inl (inl x)) ih =
          let h = parent_earlier ok x.to a x.is in
          let r = ih x.to b (omega arith) (parent_within ok x.is) j x.has in
          record { arm_a = r.arm_a; arm_b = r.arm_b; above_a = onto_child r.above_a x.is; above_b = r.above_b; arms = r.arms }
      by (inl (inr x)) ih =
          let h = parent_earlier ok x.to b x.is in
          let r = ih a x.to (omega arith) i (parent_within ok x.is) x.has in
          record { arm_a = r.arm_a; arm_b = r.arm_b; above_a = r.above_a; above_b = onto_child r.above_b x.is; arms = r.arms }

  pub branch : {a b : ℕ} → Inside t a → Inside t b → Conflict t a b → Branch a b
  branch {a} {b} = branch_within (suc (a + b)) a b (omega arith)

  -- ---- what is above one record stands in one line

  line_within : (m a b c : ℕ) → c < m → AtOrAbove t a c → AtOrAbove t b c → (AtOrAbove t a b) ⊎ (Po t b a)
  line_within zero a b c l u v = absurd (not-suc-le-zero l)
  line_within (suc m) a b c l u (equal i) = inl u
  line_within (suc m) a b c l (equal i) (above v) = inr v
  line_within (suc m) a b c l (above u) (above v) = by v (line_within m)
    where
      by : Po t b c → ((a b c : ℕ) → c < m → AtOrAbove t a c → AtOrAbove t b c → (AtOrAbove t a b) ⊎ (Po t b a)) → (AtOrAbove t a b) ⊎ (Po t b a)
      by (one e) ih =
          ⊎_elim (λ q. inl (subst (λ (z : ℕ). AtOrAbove t z b) (sym q) (equal (parent_within ok e)))) (λ w. inl (above w)) ((po_iff_parent t a b c e).0 u)
      by (more {m = p} w e) ih =
          let h = parent_earlier ok p c e in
          let up : AtOrAbove t a p = ⊎_elim (λ q. subst (λ (z : ℕ). AtOrAbove t z p) (sym q) (equal (parent_within ok e))) above ((po_iff_parent t a p c e).0 u) in
          ih a b p (omega arith) up (above w)

  -- two arms are not both above one record
  pub arms_part : {x y c : ℕ} → Arms t x y → AtOrAbove t x c → ¬ AtOrAbove t y c
  arms_part {x} {y} {c} r u v =
      ⊎_elim (λ w. ⊎_elim r.differ (arms_apart ok r).not_above (above_self w)) (arms_apart ok r).not_below
      (line_within (suc c) x y c (omega arith) u v)

  arm_not_init : {x y : ℕ} → Arms t x y → ¬ IsInit t x
  arm_not_init {x} {y} r =
      not_init ok ((po_within ok).right (one r.of_a)) ((po_within ok).right (one r.of_b)) r.one_thread r.differ (arms_apart ok r).not_above

  arms_sym : {x y : ℕ} → Arms t x y → Arms t y x
  arms_sym r =
      record { parent = r.parent; of_a = r.of_b; of_b = r.of_a; one_thread = sym r.one_thread; differ = λ e. r.differ (sym e) }

-- what X relates to something in conflict with b
pub record AndConflict (t : Table) (n : ℕ) (X : Rel) (a b : ℕ) : Type 0 where
  pub with : ℕ
  pub low : with < n
  pub related : X a with
  pub conflict : Conflict t with b

module _
    {t : Table} {n : ℕ} (k : Known t n) {parent arm : List ℕ} (p : Column n (parent_number t) parent) (c : Column n (arm_number t) arm)
    {X : Rel} (single : (a v u : ℕ) → v < n → u < n → X a v → X a u → v ≡ u)
  where
    low_above : {a b : ℕ} → b < n → AtOrAbove t a b → a < n
    low_above l u = below k ((above_within k.formed).left u)

    pub apart_conflicts : {a b : ℕ} → b < n → Apart n parent arm X a b → AndConflict t n X a b
    apart_conflicts {a} {b} l x =
        let beside = x.first in
        let other = beside.among in
        let under = other.under in
        let above_b = star_told k p l x.next in
        let above_v = star_told k p under.low under.below in
        let (e, i) = led_by_arm k c (low_above l above_b) beside.is in
        let (f, j) = led_by_arm k c other.low other.is in
        let arms : Arms t other.of x.mid = record {
          parent = beside.from;
          of_a = f;
          of_b = e;
          one_thread = thread_of_parent k.formed beside.from other.of f j ∙ sym (thread_of_parent k.formed beside.from x.mid e i);
          differ = λ q. beside.not_under (subst (λ (z : ℕ). Under n parent X a z) q under);
        } in
        record {
          with = under.at;
          low = under.low;
          related = under.related;
          conflict =
              conflict_below
              (apart_conflict k.formed (inside k other.low) (inside k (low_above l above_b)) (arms_apart k.formed arms)) above_v above_b;
        }

    pub conflict_apart : {a b : ℕ} → b < n → AndConflict t n X a b → Apart n parent arm X a b
    conflict_apart {a} {b} l x = record {
      mid = fork.arm_b;
      next = told_star k p l fork.above_b;
      first = record {
        from = fork.arms.parent;
        is = arm_leads k c low_b fork.arms.of_b (arm_not_init k.formed (arms_sym k.formed fork.arms));
        among = record {
          of = fork.arm_a;
          low = low_above x.low fork.above_a;
          is = arm_leads k c (low_above x.low fork.above_a) fork.arms.of_a (arm_not_init k.formed fork.arms);
          under = record { at = x.with; low = x.low; related = x.related; below = told_star k p x.low fork.above_a };
        };
        not_under = λ u.
            arms_part k.formed fork.arms fork.above_a
            (subst (AtOrAbove t fork.arm_b) (single a u.at x.with u.low x.low u.related x.related) (star_told k p u.low u.below));
      };
    }
      where
        fork : Branch k.formed x.with b
        fork = branch k.formed (inside k x.low) (inside k l) x.conflict

        low_b : fork.arm_b < n
        low_b = low_above l fork.above_b

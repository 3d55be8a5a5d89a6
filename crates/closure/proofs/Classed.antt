-- The closure in place where steps stay within classes: of the rows, those of k's class take in row k.
use mathlib.Core.Path.{◌≡◌, sym, subst, ◌∙◌}
use mathlib.Core.List.{List}
use mathlib.Core.Logic.{◌⊎◌, inl, ⊎_elim, ⊎_map}
use Prim.Native.Nat.{ℕ, ◌+◌, ◌<◌}
use native.Mathlib.Omega.{arith}
use native.Mathlib.Numerals.{add-one}
use native.Mathlib.Decide.{dec_lt}
use lib.ListN.{get_or}
use Rattle.laws.specs.Steps.{Rel, Plus}
use Rattle.laws.proofs.Closure.{Stage, Stage.direct, Through, stage_through, through_stage, stage_zero, stage_plus, plus_stage}
use Rattle.rows.specs.Rows.{On, Cell, MadeRow, Made}
use Rattle.rows.proofs.Along.{Gap, gap_low}
use Rattle.rows.proofs.Rows.{holds_itself, made_held, made_iff, made_again, made_row_iff, made_room, made_trans}
use Rattle.closure.specs.Classes.{InClasses}

-- by way of k to a number below i
pub record Via (k i : ℕ) (S : Rel) (a b : ℕ) : Type 0 where
  pub low : b < i
  pub to : S a k
  pub from : S k b

-- the rows below i have taken in row k
abbrev pub Passed : ℕ → ℕ → Rel → Rel
Passed k i S a b = S a b ⊎ Via k i S a b

module _ {k i j : ℕ} {S : Rel} {a b : ℕ} (f : S k b → b < i → b < j) where
  via_to : Via k i S a b → Via k j S a b
  via_to v = record { low = f v.from v.low; to = v.to; from = v.from }

  passed_to : Passed k i S a b → Passed k j S a b
  passed_to = ⊎_map (λ s. s) via_to

-- k leads to no number from one of the two up to the other
passed_same :
    {w n k i j : ℕ} {S : Rel} {m₀ m : List (List ℕ)} → ((b : ℕ) → b < n → S k b → b < i → b < j) → ((b : ℕ) → b < n → S k b → b < j → b < i)
    → Made w n (Passed k i S) m₀ m → Made w n (Passed k j S) m₀ m
passed_same f g = made_iff (λ a b l. passed_to (f b l)) (λ a b l. passed_to (g b l))

-- all rows
pub passed_all :
    {w n k : ℕ} {S : Rel} {m₀ m : List (List ℕ)} → Made w n (Passed k n S) m₀ m → Made w n (λ a b. S a b ⊎ (S a k × S k b)) m₀ m
passed_all = made_iff (λ a b l. ⊎_map (λ s. s) (λ v. (v.to, v.from))) (λ a b l. ⊎_map (λ s. s) (λ z. record { low = l; to = z.0; from = z.1 }))

module _ {w n h k : ℕ} {class : List ℕ} {members m₀ : List (List ℕ)} (given : InClasses w n h class members m₀) where
  -- k leads to no number that is not a member of its class
  pub passed_next :
      {lo i : ℕ} {m : List (List ℕ)} → Gap w members (get_or class k 0) lo i → Made w n (Passed k lo (Cell w n m₀)) m₀ m
      → Made w n (Passed k i (Cell w n m₀)) m₀ m
  passed_next gap = passed_same (λ b l s h. omega (arith, gap.from)) (λ b l s h. gap_low gap b h (given.within k b s))

  module _ {b : ℕ} {m : List (List ℕ)} (low : b < n) (p : Made w n (Passed k b (Cell w n m₀)) m₀ m) where
    -- row b was not changed yet
    todo : (a : ℕ) → On w m a b → Cell w n m₀ a b
    todo a o = ⊎_elim (λ s. s) (λ v. absurd (omega (arith, v.low))) (p.holds.only a b low o)

    -- it has k, and takes in row k
    pub passed_joined :
        {m' : List (List ℕ)} → k < n → On w m k b → MadeRow w b (λ a. On w m a b ⊎ On w m₀ a k) m m' → Made w n (Passed k (b + 1) (Cell w n m₀)) m₀ m'
    passed_joined lk on r =
        made_again b low (λ a c ne. passed_to (λ s l. omega arith)) (λ a c ne. passed_to (λ s l. omega (arith, ne))) p
        (made_row_iff
        (λ a. ⊎_map (todo a) (λ o. record { low = omega arith; to = record { row = lk; on = o }; from = todo k on }))
        (λ a. ⊎_map (λ s. p.holds.all a b low (inl s)) (λ v. v.to.on)) r)

    -- it does not have k
    pub passed_kept : ¬ On w m k b → Made w n (Passed k (b + 1) (Cell w n m₀)) m₀ m
    passed_kept off =
        passed_same (λ c l s h. omega arith) (λ c l s h. by c s h (dec_lt c b)) p
      where
        by : (c : ℕ) → Cell w n m₀ k c → c < b + 1 → Dec (c < b) → c < b
        by c s h (yes z) = z
        by c s h (no z) =
            let e : c ≡ b = omega arith in
            absurd (off (p.holds.all k b low (inl (subst (Cell w n m₀ k) e s))))

-- steps by way of k stay within classes too
pub classes_kept :
    {w n h k : ℕ} {class : List ℕ} {members m m' : List (List ℕ)} → InClasses w n h class members m → Made w n (Through k (Cell w n m)) m m'
    → InClasses w n h class members m'
classes_kept {w} {n} {h} {k} {class} {members} {m} {m'} g p = record {
  column = g.column;
  known = g.known;
  for_members = g.for_members;
  for_m = made_room g.for_m p;
  low = λ a b c. ⊎_elim (g.low a b) (λ z. g.low a k z.0) (was a b c);
  within = λ a b c. ⊎_elim (g.within a b) (λ z. subst (On w members b) (sym (g.one_class a k z.0)) (g.within k b z.1)) (was a b c);
  one_class = λ a b c. ⊎_elim (g.one_class a b) (λ z. g.one_class a k z.0 ∙ g.one_class k b z.1) (was a b c);
}
  where
    was : (a b : ℕ) → Cell w n m' a b → Through k (Cell w n m) a b
    was a b c = p.holds.only a b c.row c.on

pub stage_none : (w n : ℕ) (m : List (List ℕ)) → Made w n (Stage 0 (Cell w n m)) m m
stage_none w n m = made_iff (λ a b l o. direct (record { row = l; on = o })) (λ a b l s. (stage_zero s).on) (made_held (holds_itself w n m))

pub stage_more :
    {w n k : ℕ} {R : Rel} {m₀ m m' : List (List ℕ)} → k < n → Made w n (Stage k R) m₀ m → Made w n (Through k (Cell w n m)) m m'
    → Made w n (Stage (k + 1) R) m₀ m'
stage_more {w} {n} {k} {R} {m = m} lk p q = rw add-one (made_trans p
    (made_iff (λ a b l t. through_stage (⊎_map (of l) (λ z. (of lk z.0, of l z.1)) t))
    (λ a b l s. ⊎_map (cell l) (λ z. (cell lk z.0, cell l z.1)) (stage_through s)) q))
  where
    of : {a b : ℕ} → b < n → Cell w n m a b → Stage k R a b
    of {a} {b} l c = p.holds.only a b l c.on

    cell : {a b : ℕ} → b < n → Stage k R a b → Cell w n m a b
    cell {a} {b} l s = record { row = l; on = p.holds.all a b l s }

pub stage_all :
    {w n h : ℕ} {class : List ℕ} {members m₀ m : List (List ℕ)} → InClasses w n h class members m₀ → Made w n (Stage n (Cell w n m₀)) m₀ m
    → Made w n (Plus (Cell w n m₀)) m₀ m
stage_all g = made_iff (λ a b l. stage_plus) (λ a b l. plus_stage (record { left = λ {a} {b} c. g.low a b c; right = λ c. c.row }))

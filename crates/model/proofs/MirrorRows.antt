-- Relations kept as rows of cells, so that each is worked out once; one or more steps of one, by stages.
use mathlib.Core.Path.{◌≡◌, sym, subst, ap, ◌∙◌}
use mathlib.Core.Bool.{Bool, false, ◌&&◌, ◌||◌}
use mathlib.Core.List.{List, [], ◌∷◌}
use Prim.Native.Nat.{ℕ, zero, suc, ◌+◌, ◌<◌, ◌≤◌}
use native.Mathlib.Nat.{add-zero, zero-add, add-suc, suc-add}
use native.Mathlib.Omega.{arith}
use lib.ListN.{get_or}
use Rattle.laws.specs.Says.{Says}
use Rattle.laws.specs.Steps.{Plus}
use Rattle.laws.proofs.Says.{says_iff, says_and, says_or}
use Rattle.laws.proofs.Steps.{Within}
use Rattle.laws.proofs.Closure.{Stage, direct, stage_zero, stage_through, through_stage, stage_plus, plus_stage}

-- below n, the test f tells R
pub record Tells (n : ℕ) (f : ℕ → ℕ → Bool) (R : ℕ → ℕ → Type 0) : Type 0 where
  pub each : (a b : ℕ) → a < n → b < n → Says (f a b) (R a b)

-- ---- rows

module _ {A : Type 0} where
  -- the values of f at the n numbers from i on
  abbrev pub values_from : ℕ → ℕ → (ℕ → A) → List A
  values_from zero i f = []
  values_from (suc n) i f = f i ∷ values_from n (suc i) f

  value_at : (n i : ℕ) (f : ℕ → A) (d : A) (k : ℕ) → k < n → get_or (values_from n i f) k d ≡ f (i + k)
  value_at zero i f d k h = absurd (omega arith)
  value_at (suc n) i f d zero h = ap f (sym (add-zero i))
  value_at (suc n) i f d (suc k) h = value_at n (suc i) f d k (omega arith) ∙ ap f (suc-add i k ∙ sym (add-suc i k))

abbrev pub Rows : Type 0
Rows = List (List Bool)

abbrev pub rows : ℕ → (ℕ → ℕ → Bool) → Rows
rows n f = values_from n 0 (λ a. values_from n 0 (f a))

abbrev pub look : Rows → ℕ → ℕ → Bool
look l a b = get_or (get_or l a []) b false

look_rows : (n : ℕ) (f : ℕ → ℕ → Bool) (a b : ℕ) → a < n → b < n → look (rows n f) a b ≡ f a b
look_rows n f a b h k =
    ap (λ (l : List Bool). get_or l b false) (value_at n 0 (λ x. values_from n 0 (f x)) [] a h)
    ∙ (value_at n 0 (f (0 + a)) false b k ∙ (λ i. f (zero-add a i) (zero-add b i)))

pub rows_tell : {n : ℕ} {f : ℕ → ℕ → Bool} {R : ℕ → ℕ → Type 0} → Tells n f R → Tells n (look (rows n f)) R
rows_tell {n} {f} {R} s =
    record { each = λ a b h k. subst (λ x. Says x (R a b)) (sym (look_rows n f a b h k)) (s.each a b h k) }

-- ---- one or more steps

-- as before, or to k and from k
abbrev through : ℕ → Rows → ℕ → ℕ → Bool
through k w a b = look w a b || (look w a k && look w k b)

-- stage k: stopping on the way only at numbers below k
abbrev pub stage : ℕ → (ℕ → ℕ → Bool) → ℕ → Rows
stage n r zero = rows n r
stage n r (suc k) = rows n (through k (stage n r k))

abbrev pub plus : ℕ → (ℕ → ℕ → Bool) → Rows
plus n r = stage n r n

module _ {n : ℕ} {r : ℕ → ℕ → Bool} {R : ℕ → ℕ → Type 0} (s : Tells n r R) where
  stage_tells : (k : ℕ) → k ≤ n → Tells n (look (stage n r k)) (Stage k R)
  stage_tells zero h = rows_tell (record { each = λ a b x y. says_iff direct stage_zero (s.each a b x y) })
  stage_tells (suc k) h =
      let c : k < n = omega arith in
      let p = stage_tells k (omega arith) in
      rows_tell (record {
        each = λ a b x y.
            says_iff through_stage stage_through (says_or (p.each a b x y) (says_and (p.each a k x c) (p.each k b c y)));
      })

  pub plus_tells : Within n R → Tells n (look (plus n r)) (Plus R)
  plus_tells w = record { each = λ a b x y. says_iff stage_plus (plus_stage w) ((stage_tells n (omega arith)).each a b x y) }

-- One or more steps by stages (Warshall): stage k stops on the way only at numbers below k.
use mathlib.Core.Path.{◌≡◌, subst}
use mathlib.Core.Logic.{◌⊎◌, inl, inr}
use Prim.Native.Nat.{ℕ, zero, suc, ◌<◌, ◌≤◌}
use native.Mathlib.Nat.{not-suc-le-zero}
use native.Mathlib.Omega.{arith}
use native.Mathlib.Decide.{dec_lt}
use Rattle.laws.specs.Steps.{Plus, one, more}
use Rattle.laws.proofs.Steps.{Within}

-- less, equal or greater
pub tri {ℓ} : {C : Type ℓ} (a b : ℕ) → (a < b → C) → (a ≡ b → C) → (b < a → C) → C
tri {C} a b l e g = go (dec_lt a b) (dec_lt b a)
  where
    go : Dec (a < b) → Dec (b < a) → C
    go (yes h) d = l h
    go (no h) (yes k) = g k
    go (no h) (no k) = e (omega arith)

pub data Stage (k : ℕ) (R : ℕ → ℕ → Type 0) (a : ℕ) : ℕ → Type 0 where
  direct : {b : ℕ} → R a b → Stage k R a b
  via : {m b : ℕ} → Stage k R a m → m < k → R m b → Stage k R a b

stage_weaken : {k m : ℕ} {R : ℕ → ℕ → Type 0} → k ≤ m → {a b : ℕ} → Stage k R a b → Stage m R a b
stage_weaken h (direct r) = direct r
stage_weaken {k} {m} h (via {m = c} p l r) = let q : c < m = omega arith in via (stage_weaken h p) q r

stage_join : {k : ℕ} {R : ℕ → ℕ → Type 0} {a c b : ℕ} → Stage k R a c → c < k → Stage k R c b → Stage k R a b
stage_join p l (direct r) = via p l r
stage_join p l (via q h r) = via (stage_join p l q) h r

-- by stage k, or to k and from k
abbrev pub Through : ℕ → (ℕ → ℕ → Type 0) → ℕ → ℕ → Type 0
Through k S a b = S a b ⊎ (S a k × S k b)

to_end : {k : ℕ} {R : ℕ → ℕ → Type 0} {a : ℕ} → Through k (Stage k R) a k → Stage k R a k
to_end (inl p) = p
to_end (inr (p, q)) = p

one_more : {k : ℕ} {R : ℕ → ℕ → Type 0} {a c b : ℕ} → Through k (Stage k R) a c → c < k → R c b → Through k (Stage k R) a b
one_more (inl p) l r = inl (via p l r)
one_more (inr (p, q)) l r = inr (p, via q l r)

pub stage_through : {k : ℕ} {R : ℕ → ℕ → Type 0} {a b : ℕ} → Stage (suc k) R a b → Through k (Stage k R) a b
stage_through (direct r) = inl (direct r)
stage_through {k} {R} {a} {b} (via {m = c} p l r) =
    let s = stage_through p in
    tri c k (λ h. one_more s h r)
    (λ e. inr (to_end (subst (Through k (Stage k R) a) e s), direct (subst (λ (x : ℕ). R x b) e r))) (λ h. absurd (omega arith))

pub through_stage : {k : ℕ} {R : ℕ → ℕ → Type 0} {a b : ℕ} → Through k (Stage k R) a b → Stage (suc k) R a b
through_stage {k} (inl p) = stage_weaken (omega arith) p
through_stage {k} (inr (p, q)) = stage_join (stage_weaken (omega arith) p) (omega arith) (stage_weaken (omega arith) q)

pub stage_zero : {R : ℕ → ℕ → Type 0} {a b : ℕ} → Stage zero R a b → R a b
stage_zero (direct r) = r
stage_zero (via p l r) = absurd (not-suc-le-zero l)

pub stage_plus : {n : ℕ} {R : ℕ → ℕ → Type 0} {a b : ℕ} → Stage n R a b → Plus R a b
stage_plus (direct r) = one r
stage_plus (via p l r) = more (stage_plus p) r

pub plus_stage : {n : ℕ} {R : ℕ → ℕ → Type 0} → Within n R → {a b : ℕ} → Plus R a b → Stage n R a b
plus_stage w (one r) = direct r
plus_stage w (more p r) = via (plus_stage w p) (w.left r) r

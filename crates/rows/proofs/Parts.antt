-- Parts of a matrix that are written in place.
use mathlib.Core.Path.{◌≡◌, refl, ◌∙◌}
use mathlib.Core.List.{List, []}
use Prim.Native.Nat.{ℕ, zero, suc, ◌≤◌, ◌<◌}
use native.Mathlib.Omega.{arith}
use lib.ListN.{get_or, set, length-set, replicate}
use lib.Seq.{get_or-set_other}
use Rattle.rows.specs.Rows.{Outside}

pub outside_none : {lo hi : ℕ} {m : List (List ℕ)} → Outside lo hi m m
outside_none = record { size = refl; below = λ k _. refl; past = λ k _. refl }

-- a part may be taken wider
pub outside_wider : {lo hi lo' hi' : ℕ} {m m' : List (List ℕ)} → lo' ≤ lo → hi ≤ hi' → Outside lo hi m m' → Outside lo' hi' m m'
outside_wider l h o = record { size = o.size; below = λ k w. o.below k (omega arith); past = λ k w. o.past k (omega arith) }

-- one after the other
pub outside_trans : {lo hi : ℕ} {m m' m'' : List (List ℕ)} → Outside lo hi m m' → Outside lo hi m' m'' → Outside lo hi m m''
outside_trans o p =
    record { size = p.size ∙ o.size; below = λ k w. p.below k w ∙ o.below k w; past = λ k w. p.past k w ∙ o.past k w }

-- a row of the part is written
pub outside_set : {lo hi : ℕ} {m m' : List (List ℕ)} (at : ℕ) (v : List ℕ) → lo ≤ at → at < hi → Outside lo hi m m' → Outside lo hi m (set m' at v)
outside_set {lo} {hi} {m} {m'} at v l h o = record {
  size = length-set m' at v ∙ o.size;
  below = λ k w. get_or-set_other m' at k v [] (λ e. omega (arith, e)) ∙ o.below k w;
  past = λ k w. get_or-set_other m' at k v [] (λ e. omega (arith, e)) ∙ o.past k w;
}

-- words that are all 0
pub zeros : (k i : ℕ) → ◌≡◌ {A = ℕ} (get_or (replicate k 0) i 0) 0
zeros zero i = refl
zeros (suc k) zero = refl
zeros (suc k) (suc i) = zeros k i

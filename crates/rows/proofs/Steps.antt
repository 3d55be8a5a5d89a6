-- Steps that columns give, by their last step.
use mathlib.Core.List.{List}
use mathlib.Core.Logic.{◌⊎◌, inl, inr}
use Prim.Native.Nat.{ℕ, ◌≤◌, ◌<◌}
use native.Mathlib.Omega.{arith}
use Rattle.laws.specs.Steps.{Rel, Plus, Plus.one, Plus.more}
use Rattle.laws.proofs.Steps.{plus_rises}
use Rattle.rows.specs.declared.set.Set.{Set}
use Rattle.rows.specs.Sets.{Is}
use Rattle.rows.specs.Rows.{On, Holds}
use Rattle.rows.specs.Steps.{Leads, ByEither, ByEither.by_first, ByEither.by_second, Star, Star.here, Star.on, Then}
use Rattle.rows.proofs.Sets.{is_iff}

module _ {R : Rel} {c d : List ℕ} {a b : ℕ} where
  pub either_then : Then R (Leads c) a b ⊎ Then R (Leads d) a b → Then R (ByEither c d) a b
  either_then (inl t) = record { mid = t.mid; first = t.first; next = by_first t.next }
  either_then (inr t) = record { mid = t.mid; first = t.first; next = by_second t.next }

  pub then_either : Then R (ByEither c d) a b → Then R (Leads c) a b ⊎ Then R (Leads d) a b
  then_either t = by t.next
    where
      by : ByEither c d t.mid b → Then R (Leads c) a b ⊎ Then R (Leads d) a b
      by (by_first l) = inl (record { mid = t.mid; first = t.first; next = l })
      by (by_second l) = inr (record { mid = t.mid; first = t.first; next = l })

-- steps by columns go upward
pub either_rises : {c d : List ℕ} {a b : ℕ} → ByEither c d a b → a < b
either_rises (by_first l) = l.falls
either_rises (by_second l) = l.falls

-- R and then one or more steps of S: one step from R, or one more
module _ {R S : Rel} {a b : ℕ} where
  pub then_plus : Then R S a b ⊎ Then (Then R (Plus S)) S a b → Then R (Plus S) a b
  then_plus (inl t) = record { mid = t.mid; first = t.first; next = one t.next }
  then_plus (inr t) = record { mid = t.first.mid; first = t.first.first; next = more t.first.next t.next }

  pub plus_then : Then R (Plus S) a b → Then R S a b ⊎ Then (Then R (Plus S)) S a b
  plus_then t = by t.next
    where
      by : Plus S t.mid b → Then R S a b ⊎ Then (Then R (Plus S)) S a b
      by (one s) = inl (record { mid = t.mid; first = t.first; next = s })
      by (more {m = m} p s) = inr (record { mid = m; first = record { mid = t.mid; first = t.first; next = p }; next = s })

pub plus_before : {S : Rel} {a m b : ℕ} → S a m → Plus S m b → Plus S a b
plus_before s (one t) = more (one s) t
plus_before s (more p t) = more (plus_before s p) t

pub star_before : {S : Rel} {a m b : ℕ} → S a m → Star S m b → Star S a b
star_before s here = on (one s)
star_before s (on p) = on (plus_before s p)

star_plus : {S : Rel} {a m b : ℕ} → Star S a m → S m b → Plus S a b
star_plus here s = one s
star_plus (on p) s = more p s

pub star_more : {S : Rel} {a m b : ℕ} → Star S a m → S m b → Star S a b
star_more t s = on (star_plus t s)

-- by the first step
pub plus_first : {S : Rel} {a b : ℕ} → Plus S a b → Then S (Star S) a b
plus_first {b = b} (one s) = record { mid = b; first = s; next = here }
plus_first (more p s) = let t = plus_first p in record { mid = t.mid; first = t.first; next = star_more t.next s }

pub star_rises : {S : Rel} → ((a b : ℕ) → S a b → a < b) → {a b : ℕ} → Star S a b → a ≤ b
star_rises f here = omega arith
star_rises f {a} {b} (on p) = let l : a < b = plus_rises f p in omega arith

-- R and then no step or more: R itself, or one more
module _ {R S : Rel} {a b : ℕ} where
  pub then_star : R a b ⊎ Then (Then R (Star S)) S a b → Then R (Star S) a b
  then_star (inl r) = record { mid = b; first = r; next = here }
  then_star (inr t) = record { mid = t.first.mid; first = t.first.first; next = star_more t.first.next t.next }

  pub star_then : Then R (Star S) a b → R a b ⊎ Then (Then R (Star S)) S a b
  star_then t = by t.mid t.first t.next
    where
      by : (m : ℕ) → R a m → Star S m b → R a b ⊎ Then (Then R (Star S)) S a b
      by m r here = inl r
      by m r (on (one s)) = inr (record { mid = m; first = record { mid = m; first = r; next = here }; next = s })
      by m r (on (more {m = k} p s)) = inr (record { mid = k; first = record { mid = m; first = r; next = on p }; next = s })

-- R, no step or more, and one more: R and one step or more
module _ {R S : Rel} {a b : ℕ} where
  pub star_step : Then (Then R (Star S)) S a b → Then R (Plus S) a b
  star_step t = record { mid = t.first.mid; first = t.first.first; next = star_plus t.first.next t.next }

  pub step_star : Then R (Plus S) a b → Then (Then R (Star S)) S a b
  step_star t = by t.mid t.first t.next
    where
      by : (m : ℕ) → R a m → Plus S m b → Then (Then R (Star S)) S a b
      by m r (one s) = record { mid = m; first = record { mid = m; first = r; next = here }; next = s }
      by m r (more {m = k} p s) = record { mid = k; first = record { mid = m; first = r; next = on p }; next = s }

-- a step to b comes from a row that holds R already
pub then_held :
    {w b : ℕ} {R S : Rel} {m : List (List ℕ)} {r : Set w} → ((v : ℕ) → S v b → v < b) → Holds w b R m → Is r (λ a. Then (On w m) S a b)
    → Is r (λ a. Then R S a b)
then_held rises h =
    is_iff (λ a t. record { mid = t.mid; first = h.only a t.mid (rises t.mid t.next) t.first; next = t.next })
    (λ a t. record { mid = t.mid; first = h.all a t.mid (rises t.mid t.next) t.first; next = t.next })

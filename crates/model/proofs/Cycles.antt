-- The search for the least cycle of a relation kept as rows: walks of one step, of two, and so on, until one is closed.
use Rattle.std.specs.Prelude.{Option, None, Some}
use mathlib.Core.Path.{◌≡◌, refl, subst, ap}
use mathlib.Core.Bool.{Bool, true, false, ◌&&◌}
use mathlib.Core.List.{List, [], ◌∷◌}
use Prim.Native.Nat.{ℕ, zero, suc, ◌+◌, ◌<◌, ◌≤◌}
use native.Mathlib.Numerals.{add-one}
use native.Mathlib.Omega.{arith}
use native.Mathlib.Decide.{ℕ_discrete}
use lib.Dec.{T}
use lib.ListN.{length}
use Rattle.laws.specs.Says.{any_below}
use Rattle.laws.specs.Steps.{Walk, IsCycle}
use Rattle.laws.specs.Least.{Least, LeastNumber, LeastCycle}
use Rattle.laws.specs.Tails.{LeastTail}
use Rattle.laws.proofs.Says.{says_iff, says_and, says_any, any_of}
use Rattle.laws.proofs.Steps.{Within}
use Rattle.laws.proofs.Walks.{cycle_fits, last_step, chosen, least_closed_walk, walk_plus}
use Rattle.model.proofs.MirrorRows.{Tells, Rows, rows, look, plus, rows_tell, plus_tells}
use Rattle.model.proofs.Search.{first_below, first_least}

-- a walk by way of k records
pub record By (R : ℕ → ℕ → Type 0) (k a b : ℕ) : Type 0 where
  pub way : List ℕ
  pub walk : Walk R a way b
  pub long : length way ≡ k

-- from a by a step, and on by a walk that p has
abbrev step_then : ℕ → (ℕ → ℕ → Bool) → Rows → ℕ → ℕ → Bool
step_then n r p a b = any_below (λ m. r a m && look p m b) n

abbrev walks : ℕ → (ℕ → ℕ → Bool) → ℕ → Rows
walks n r zero = rows n r
walks n r (suc k) = rows n (step_then n r (walks n r k))

abbrev or_zero : Option ℕ → ℕ
or_zero None = 0
or_zero (Some a) = a

-- the least list of k records by which a walk goes from a to home
abbrev tail : ℕ → (ℕ → ℕ → Bool) → ℕ → ℕ → ℕ → List ℕ
tail n r home zero a = []
tail n r home (suc k) a =
    let m = or_zero (first_below n (λ m. let on = look (walks n r k) m home in r a m && on)) in
    m ∷ tail n r home k m

-- p has the walks by way of k records: the least closed one, or the search goes on with one record more
abbrev shortest : ℕ → ℕ → (ℕ → ℕ → Bool) → ℕ → Rows → Option (List ℕ)
shortest zero n r k p = None
shortest (suc fuel) n r k p =
    elim (first_below n (λ s. look p s s)) [
      | None ↦ shortest fuel n r (suc k) (rows n (step_then n r p))
      | Some s ↦ Some (s ∷ tail n r s k s)
    ]

-- a quick test first: no record is one or more steps before itself
abbrev pub first_cycle : ℕ → (ℕ → ℕ → Bool) → Option (List ℕ)
first_cycle n r =
    let p = plus n r in
    elim (any_below (λ s. look p s s) n) [ true ↦ shortest n n r 0 (rows n r) | false ↦ None ]

-- By a record more is a step and then the rest
module _ {R : ℕ → ℕ → Type 0} where
  by_none : {a b : ℕ} → By R 0 a b → R a b
  by_none {a} {b} z = go z.way z.walk z.long
    where
      go : (l : List ℕ) → Walk R a l b → length l ≡ 0 → R a b
      go [] v e = v
      go (x ∷ l) v e = absurd (omega arith)

  by_more : {a b : ℕ} (k : ℕ) → By R (suc k) a b → (m : ℕ) × (R a m × By R k m b)
  by_more {a} {b} k z = go z.way z.walk z.long
    where
      go : (l : List ℕ) → Walk R a l b → length l ≡ suc k → (m : ℕ) × (R a m × By R k m b)
      go [] v e = absurd (omega arith)
      go (x ∷ l) v e = (x, (v.0, record { way = l; walk = v.1; long = omega arith }))

-- no closed walk goes by fewer than k records
abbrev NoneShorter : (ℕ → ℕ → Type 0) → ℕ → Type 0
NoneShorter R k = (a : ℕ) (m : List ℕ) → Walk R a m a → k ≤ length m

module _ {n : ℕ} {r : ℕ → ℕ → Bool} {R : ℕ → ℕ → Type 0} (s : Tells n r R) (w : Within n R) where
  walks_tell : (k : ℕ) → Tells n (look (walks n r k)) (By R k)
  walks_tell zero = rows_tell (record {
    each = λ a b x y. says_iff (λ e. record { way = []; walk = e; long = refl }) by_none (s.each a b x y);
  })
  walks_tell (suc k) =
      let p = walks_tell k in
      rows_tell (record {
        each = λ a b x y.
            says_iff (λ (m, (e, z)). record { way = m ∷ z.way; walk = (e, z.walk); long = ap suc z.long }) (by_more k)
            (says_any (λ m (e, z). w.right e) (λ m h. says_and (s.each a m x h) (p.each m b h y)));
      })

  -- the least next record from which k records more lead home
  next_least :
      (home k a : ℕ) → home < n → a < n → LeastNumber (λ m. R a m × By R k m home) (first_below n (λ m. r a m && look (walks n r k) m home))
  next_least home k a h x =
      first_least n (λ m (e, z). w.right e) (λ m y. says_and (s.each a m x y) ((walks_tell k).each m home y h))

  by_inside : {k a b : ℕ} → By R k a b → a < n
  by_inside {a = a} {b = b} z = go z.way z.walk
    where
      go : (l : List ℕ) → Walk R a l b → a < n
      go [] v = w.left v
      go (x ∷ l) v = w.left v.0

  tail_least : (home k a : ℕ) → home < n → By R k a home → LeastTail R home a (k + 1) (tail n r home k a)
  tail_least home zero a h z = last_step R (by_none z)
  tail_least home (suc k) a h z = go (next_least home k a h (by_inside z)) (λ m. tail_least home k m h)
    where
      go :
          {o : Option ℕ} → LeastNumber (λ m. R a m × By R k m home) o → ((m : ℕ) → By R k m home → LeastTail R home m (k + 1) (tail n r home k m))
          → LeastTail R home a (suc k + 1) (or_zero o ∷ tail n r home k (or_zero o))
      go (Least.absent no_next) rest = let (m, found) = by_more k z in absurd (no_next m found)
      go (Least.least {a = m} (e, y) first) rest =
          rw (← add-one k) (chosen R e (rest m y) (λ b l f v q. first b (f, record { way = l; walk = v; long = omega arith })))

  closed_least : (k : ℕ) → NoneShorter R k → (c : ℕ) → By R k c c → ((a : ℕ) → By R k a a → c ≤ a) → LeastCycle R (Some (c ∷ tail n r c k c))
  closed_least k few c z first =
      least_closed_walk R (tail_least c k c (by_inside z) z) (λ a m v. omega (arith, few a m v))
      (λ a m v q. first a (record { way = m; walk = v; long = omega arith }))

  -- n + 1 different records are too many
  none_left : NoneShorter R n → (c : List ℕ) → ¬ IsCycle R c
  none_left few [] x = x
  none_left few (a ∷ m) x = omega (arith, few a m x.1, cycle_fits R n w (a ∷ m) x)

  shortest_least : (fuel k : ℕ) → k + fuel ≡ n → NoneShorter R k → LeastCycle R (shortest fuel n r k (walks n r k))
  shortest_least zero k e few = Least.absent (none_left (λ a m v. omega (arith, few a m v)))
  shortest_least (suc fuel) k e few =
      go (first_least n (λ a z. by_inside z) (λ a h. (walks_tell k).each a a h h)) (shortest_least fuel (suc k) (omega arith))
    where
      go :
          {o : Option ℕ} → LeastNumber (λ a. By R k a a) o → (NoneShorter R (suc k) → LeastCycle R (shortest fuel n r (suc k) (walks n r (suc k))))
          → LeastCycle R (elim o as (λ x. Option (List ℕ)) [ None ↦ shortest fuel n r (suc k) (walks n r (suc k)) | Some c ↦ Some (c ∷ tail n r c k c) ])
      go (Least.absent no_closed) on = on (λ a m v. longer a m v (ℕ_discrete (length m) k))
        where
          longer : (a : ℕ) (m : List ℕ) → Walk R a m a → Dec (length m ≡ k) → suc k ≤ length m
          longer a m v (yes q) = absurd (no_closed a (record { way = m; walk = v; long = q }))
          longer a m v (no q) = omega (arith, few a m v)
      go (Least.least {a = c} z first) on = closed_least k few c z first

  pub cycle_least : LeastCycle R (first_cycle n r)
  cycle_least = go (any_below (λ a. look (plus n r) a a) n) refl
    where
      passes : (c : List ℕ) → IsCycle R c → T (any_below (λ a. look (plus n r) a a) n)
      passes [] x = absurd x
      passes (a ∷ m) x =
          let h : a < n = by_inside (record { way = m; walk = x.1; long = refl }) in
          any_of (λ a. look (plus n r) a a) n a h (((plus_tells s w).each a a h h).from (walk_plus R a m a x.1))

      go : (b : Bool) → any_below (λ a. look (plus n r) a a) n ≡ b → LeastCycle R (elim b as (λ x. Option (List ℕ)) [ true ↦ shortest n n r 0 (rows n r) | false ↦ None ])
      go true e = shortest_least n 0 (omega arith) (λ a m v. omega arith)
      go false e = Least.absent (λ c x. subst T e (passes c x))

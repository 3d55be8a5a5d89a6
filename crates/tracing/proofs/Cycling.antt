-- The least cycle of any relation on the numbers below n: the first record with the fewest steps back, then the least next record again and again.
use mathlib.Core.Path.{◌≡◌, refl}
use mathlib.Core.List.{List, [], ◌∷◌}
use Rattle.std.specs.Prelude.{Option, None, Some, MatchOption, IsSome}
use Prim.Native.Nat.{ℕ, ◌+◌, ◌-◌, ◌<◌, ◌≤◌}
use native.Mathlib.Omega.{arith}
use native.Mathlib.Decide.{dec_lt}
use lib.ListN.{length, set}
use Rattle.laws.specs.Steps.{Rel, Walk, IsCycle}
use Rattle.laws.specs.Least.{Least, LeastCycle}
use Rattle.laws.specs.Tails.{LeastTail}
use Rattle.laws.proofs.Steps.{Within}
use Rattle.laws.proofs.Walks.{at_most, different, walk_below, least_closed_walk, walk_starts, cycle_fits}
use Rattle.cycle.specs.Distances.{Reaches, Wrote}
use Rattle.cycle.proofs.Writing.{Writing, writing_on, writing_close}
use Rattle.tracing.specs.Layers.{entry, StepsTo}
use Rattle.tracing.specs.Cycles.{Back, Chosen, StartOf, IsNext, NextOf}

-- ---- the start

-- the fewest so far, and the first that has it
pub record Sofar (R : Rel) (best : ℕ) (at : Option ℕ) (s : ℕ) : Type 0 where
  pub small : best ≤ 255
  pub low : (a : ℕ) (xs : List ℕ) → a < s → Walk R a xs a → best ≤ length xs + 1
  pub place : MatchOption at (best ≡ 255) (λ z. (z < s) × ((best < 255) × (Back R z best × ((a : ℕ) (xs : List ℕ) → a < z → Walk R a xs a → best < length xs + 1))))

module _ {R : Rel} {n s : ℕ} {d : List ℕ} (on : Within n R) (sh : StepsTo R n s d) where
  -- ---- the way

  -- one step on, with a walk of k steps left, where the fewest are k + 1: the entry is k
  exact : {a y k : ℕ} (xs : List ℕ) → R a y → Walk R y xs s → length xs + 1 ≡ k → entry d a ≡ k + 1 → k < 255 → entry d y ≡ k
  exact {a} {y} {k} xs r w e q small =
      let up : entry d y ≤ k = omega (arith, sh.complete y xs w) in
      let z = sh.sound y (on.right r) (omega arith) in
      omega (arith, z.long, sh.complete a (y ∷ z.by) (r, z.walk))

  module _ {a i len : ℕ} (ha : a < n) (small : len < 255) (q : entry d a + i ≡ len + 1) where
    pub next_there : (x : Option ℕ) → i < len → 1 ≤ i → NextOf R n d a (len - i) x → IsSome x
    next_there (Some x) hi h1 f = refl
    next_there None hi h1 never = let z = sh.sound a ha (omega arith) in absurd (found z.by z.walk z.long)
      where
        found : (xs : List ℕ) → Walk R a xs s → length xs + 1 ≡ entry d a → ⊥
        found [] w e = omega arith
        found (y ∷ ys) w e = never y (on.right w.0) w.0 (exact ys w.0 w.1 (omega arith) (omega arith) (omega arith))

    pub writing_more :
        {x : ℕ} {before out : List ℕ} → i < len → 1 ≤ i → i < length before → IsNext R n d a (len - i) x → Writing R s len before out a i → Writing R s len before (set out i x) x (i + 1)
    writing_more {x} {before} {out} hi h1 room f w = writing_on room f.step (λ y xs r v e. first y xs r v e (dec_lt y x)) w
      where
        first : (y : ℕ) (xs : List ℕ) → R a y → Walk R y xs s → length xs + 1 + i ≡ len → Dec (y < x) → x ≤ y
        first y xs r v e (yes l) = absurd (f.before y l r (exact xs r v (omega arith) (omega arith) (omega arith)))
        first y xs r v e (no l) = omega arith

  pub writing_end :
      {a len : ℕ} {o out : List ℕ} → a < n → 1 ≤ len → entry d a + len ≡ len + 1 → Writing R s len (set o 0 s) out a len → Wrote R s len o out
  writing_end {a} {len} ha h1 q w = writing_close h1 (last z.by z.walk z.long) w
    where
      z : Reaches R a s (entry d a)
      z = sh.sound a ha (omega arith)

      last : (xs : List ℕ) → Walk R a xs s → length xs + 1 ≡ entry d a → R a s
      last [] v e = v
      last (y ∷ ys) v e = absurd (omega arith)

  -- ---- the answer

  module _ (hs : s < n) (f : Chosen R n s) where
    as_best : entry d s ≡ f.best
    as_best =
        let z = f.back.sound f.some in
        let up : entry d s ≤ f.best = omega (arith, sh.complete s z.by z.walk, z.long) in
        let y = sh.sound s hs (omega (arith, f.some)) in
        omega (arith, f.back.complete y.by y.walk, y.long)

    few : (a : ℕ) (xs : List ℕ) → Walk R a xs a → entry d s ≤ length xs + 1
    few a xs w = omega (arith, as_best, f.few a xs (walk_starts R on a xs a w) w)

    pub start_small : entry d s < 255
    start_small = omega (arith, as_best, f.some)

    pub start_some : 0 < entry d s
    start_some = omega (arith, (sh.sound s hs start_small).long)

    pub start_short : entry d s ≤ n
    start_short =
        let z = sh.sound s hs start_small in
        let apart = different R (length z.by) (λ c xs w. omega (arith, z.long, few c xs w)) s z.by s z.walk (omega arith) in
        omega (arith, z.long, at_most n (s ∷ z.by) apart (hs, walk_below R n (λ a b r. on.right r) s z.by s z.walk))

    pub found : {l : List ℕ} → LeastTail R s s (entry d s) l → LeastCycle R (Some (s ∷ l))
    found t = least_closed_walk R t few (λ a xs w e. first a xs w e (dec_lt a s))
      where
        first : (a : ℕ) (xs : List ℕ) → Walk R a xs a → length xs + 1 ≡ entry d s → Dec (a < s) → s ≤ a
        first a xs w e (yes l) = absurd (omega (arith, f.first a xs l w, as_best))
        first a xs w e (no l) = omega arith

pub nothing : {R : Rel} {n : ℕ} → Within n R → n ≤ 254 → StartOf R n None → LeastCycle R None
nothing {R} {n} on small none_back = Least.absent no_cycle
  where
    no_cycle : (c : List ℕ) → ¬ IsCycle R c
    no_cycle [] c = c
    no_cycle (a ∷ xs) c =
        omega (arith, cycle_fits R n on (a ∷ xs) c, none_back a xs (walk_starts R on a xs a c.1) c.1)

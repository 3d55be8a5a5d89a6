-- Walks and cycles of any relation: a shortest closed walk is a cycle; different records below n are at most n; the least next record,
-- again and again, gives the least cycle.
use Rattle.std.specs.Prelude.{Some}
use Prim.Native.Nat.{ℕ, zero, suc, ◌+◌, ◌<◌, ◌≤◌}
use mathlib.Core.Path.{◌≡◌, refl, sym, subst}
use mathlib.Core.List.{List, [], ◌∷◌, ◌++◌}
use mathlib.Core.Logic.{◌⊎◌, inl, inr, ⊎_elim}
use lib.ListN.{length}
use native.Mathlib.Omega.{arith}
use native.Mathlib.Decide.{ℕ_discrete, dec_lt}
use Rattle.laws.specs.Steps.{Rel, Plus, one, Walk, NotIn, Different, IsCycle}
use Rattle.laws.specs.Least.{Least, ListAtMost, CycleAtMost, fewer, as_many, LeastCycle}
use Rattle.laws.specs.Tails.{LeastTail}
use Rattle.laws.proofs.Steps.{Within, plus_trans}

-- every record of a list is below k
abbrev pub Below : ℕ → List ℕ → Type 0
Below k [] = Unit {0}
Below k (x ∷ xs) = (x < k) × Below k xs

-- different records below n are at most n
record Rest (k : ℕ) (xs : List ℕ) : Type 0 where
  rest : List ℕ
  apart : Different rest
  below : Below k rest
  more : length xs ≤ suc (length rest)
  kept : (a : ℕ) → NotIn a xs → NotIn a rest

lower : (k : ℕ) (xs : List ℕ) → NotIn k xs → Below (suc k) xs → Below k xs
lower k [] d h = tt
lower k (x ∷ xs) d h = (omega (arith, h.0, d.0), lower k xs d.1 h.1)

rest_of : (k : ℕ) (xs : List ℕ) → Different xs → Below (suc k) xs → Rest k xs
rest_of k [] d h = record { rest = []; apart = tt; below = tt; more = omega arith; kept = λ a s. tt }
rest_of k (x ∷ xs) d h = go (ℕ_discrete x k) (rest_of k xs d.1 h.1)
  where
    go : Dec (x ≡ k) → Rest k xs → Rest k (x ∷ xs)
    go (yes e) s =
        record { rest = xs; apart = d.1; below = lower k xs (subst (λ (y : ℕ). NotIn y xs) e d.0) h.1; more = omega arith; kept = λ a z. z.1 }
    go (no ne) s =
        record { rest = x ∷ s.rest; apart = (s.kept x d.0, s.apart); below = (omega (arith, h.0), s.below); more = omega (arith, s.more); kept = λ a z. (z.0, s.kept a z.1) }

pub at_most : (n : ℕ) (xs : List ℕ) → Different xs → Below n xs → length xs ≤ n
at_most zero [] d h = omega arith
at_most zero (x ∷ xs) d h = absurd (omega (arith, h.0))
at_most (suc n) xs d h = let s = rest_of n xs d h in omega (arith, s.more, at_most n s.rest s.apart s.below)

module _ (R : Rel) where
  -- two walks make one
  pub joined : (a : ℕ) (p : List ℕ) (k : ℕ) (q : List ℕ) (b : ℕ) → Walk R a p k → Walk R k q b → Walk R a (p ++ k ∷ q) b
  joined a [] k q b v w = (v, w)
  joined a (x ∷ p) k q b v w = (v.0, joined x p k q b v.1 w)

  -- on a walk either a does not stand, or a shorter walk leads to it
  closes : (a c : ℕ) (xs : List ℕ) (b : ℕ) → Walk R c xs b → NotIn a xs ⊎ ((p : List ℕ) × Walk R c p a × (length p < length xs))
  closes a c [] b w = inl tt
  closes a c (x ∷ xs) b w = go (ℕ_discrete a x) (closes a x xs b w.1)
    where
      go : Dec (a ≡ x) → NotIn a xs ⊎ ((p : List ℕ) × Walk R x p a × (length p < length xs)) → NotIn a (x ∷ xs) ⊎ ((p : List ℕ) × Walk R c p a × (length p < suc (length xs)))
      go (yes e) s = inr ([], subst (λ (y : ℕ). R c y) (sym e) w.0, omega arith)
      go (no ne) (inl s) = inl (ne, s)
      go (no ne) (inr s) = inr (x ∷ s.0, (w.0, s.1), omega (arith, s.2))

  -- where no closed walk is shorter, the records of a walk are different
  pub different : (k : ℕ) → ((c : ℕ) (m : List ℕ) → Walk R c m c → k ≤ length m) → (a : ℕ) (xs : List ℕ) (b : ℕ) → Walk R a xs b → length xs ≤ k → Different (a ∷ xs)
  different k none a [] b w le = (tt, tt)
  different k none a (x ∷ xs) b w le = (
    ⊎_elim (λ (s : NotIn a (x ∷ xs)). s) (λ (s : (p : List ℕ) × Walk R a p a × (length p < length (x ∷ xs))). absurd (omega (arith, none a s.0 s.1, s.2))) (closes a a (x ∷ xs) b w),
    different k none x xs b w.1 (omega arith),
  )

  -- where steps lead below n, so does a walk
  pub walk_below : (n : ℕ) → ((a b : ℕ) → R a b → b < n) → (a : ℕ) (xs : List ℕ) (b : ℕ) → Walk R a xs b → Below n xs
  walk_below n to a [] b w = tt
  walk_below n to a (x ∷ xs) b w = (to a x w.0, walk_below n to x xs b w.1)

  pub last_step : {t a : ℕ} → R a t → LeastTail R t a 1 []
  last_step r = record { walk = r; long = refl; least = λ m w e. tt }

  -- the least next record from which a walk of k steps is left, then the least list from there
  pub chosen :
      {t a k x : ℕ} {l : List ℕ} → R a x → LeastTail R t x k l
      → ((y : ℕ) (m : List ℕ) → R a y → Walk R y m t → length m + 1 ≡ k → x ≤ y) → LeastTail R t a (k + 1) (x ∷ l)
  chosen {t} {a} {k} {x} {l} r s first = record { walk = (r, s.walk); long = omega (arith, s.long); least = least }
    where
      least : (m : List ℕ) → Walk R a m t → length m + 1 ≡ k + 1 → ListAtMost (x ∷ l) m
      least [] w e = absurd (omega (arith, s.long))
      least (y ∷ m) w e = go (ℕ_discrete x y)
        where
          go : Dec (x ≡ y) → (x < y) ⊎ ((x ≡ y) × ListAtMost l m)
          go (yes q) = inr (q, s.least m (subst (λ (z : ℕ). Walk R z m t) (sym q) w.1) (omega arith))
          go (no ne) = inl (omega (arith, first y m w.0 w.1 (omega arith)))

  -- the least closed walk from the least record of a closed walk of the fewest steps is the least cycle
  pub least_closed_walk :
      {s k : ℕ} {l : List ℕ} → LeastTail R s s k l → ((a : ℕ) (m : List ℕ) → Walk R a m a → k ≤ length m + 1)
      → ((a : ℕ) (m : List ℕ) → Walk R a m a → length m + 1 ≡ k → s ≤ a) → LeastCycle R (Some (s ∷ l))
  least_closed_walk {s} {k} {l} t few first =
      Least.least {a = s ∷ l} (different (length l) (λ c m w. omega (arith, few c m w, t.long)) s l s t.walk (omega arith), t.walk) at_most_each
    where
      by_list : (a : ℕ) (m : List ℕ) → Walk R a m a → length m + 1 ≡ k → Dec (s ≡ a) → (s < a) ⊎ ((s ≡ a) × ListAtMost l m)
      by_list a m w e (yes q) = inr (q, t.least m (subst (λ (z : ℕ). Walk R z m z) (sym q) w) e)
      by_list a m w e (no ne) = inl (omega (arith, first a m w e))

      by_length : (a : ℕ) (m : List ℕ) → Walk R a m a → Dec (length l < length m) → CycleAtMost (s ∷ l) (a ∷ m)
      by_length a m w (yes h) = fewer (omega arith)
      by_length a m w (no h) =
          let e : length m + 1 ≡ k = omega (arith, few a m w, t.long) in
          as_many (omega (arith, t.long)) (by_list a m w e (ℕ_discrete s a))

      at_most_each : (m : List ℕ) → IsCycle R m → CycleAtMost (s ∷ l) m
      at_most_each [] c = absurd c
      at_most_each (a ∷ m) c = by_length a m c.1 (dec_lt (length l) (length m))

  -- a walk is one or more steps
  pub walk_plus : (a : ℕ) (xs : List ℕ) (b : ℕ) → Walk R a xs b → Plus R a b
  walk_plus a [] b w = one w
  walk_plus a (x ∷ xs) b w = plus_trans (one w.0) (walk_plus x xs b w.1)

  -- a walk starts where there are numbers
  pub walk_starts : {n : ℕ} → Within n R → (a : ℕ) (xs : List ℕ) (b : ℕ) → Walk R a xs b → a < n
  walk_starts w a [] b v = w.left v
  walk_starts w a (x ∷ xs) b v = w.left v.0

  -- a cycle has no more records than there are
  pub cycle_fits : (n : ℕ) → Within n R → (c : List ℕ) → IsCycle R c → length c ≤ n
  cycle_fits n w [] c = absurd c
  cycle_fits n w (a ∷ xs) c =
      at_most n (a ∷ xs) c.0 (walk_starts w a xs a c.1, walk_below n (λ x y r. w.right r) a xs a c.1)

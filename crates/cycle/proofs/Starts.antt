-- The least start, the way from there, and the least cycle that they give.
use Rattle.std.specs.Prelude.{Option, None, Some}
use mathlib.Core.Path.{◌≡◌, refl, subst}
use mathlib.Core.List.{List, [], ◌∷◌, ◌++◌}
use mathlib.Core.Logic.{◌⊎◌, inl, inr, ⊎_elim, ⊎_map}
use Prim.Native.Nat.{ℕ, ◌+◌, ◌-◌, ◌<◌, ◌≤◌}
use native.Mathlib.Omega.{arith}
use native.Mathlib.Decide.{dec_lt}
use lib.ListN.{length, length-append}
use Rattle.laws.specs.Steps.{Rel, Walk, IsCycle}
use Rattle.laws.specs.Least.{Least, LeastCycle}
use Rattle.laws.specs.Tails.{LeastTail}
use Rattle.laws.proofs.Steps.{Within}
use Rattle.laws.proofs.Walks.{joined, least_closed_walk, cycle_fits}
use Rattle.laws.proofs.Closure.{tri}
use Rattle.rows.specs.Rows.{On, MadeRow}
use Rattle.rows.proofs.Along.{Gap, along_next, along_more}
use Rattle.cycle.specs.Distances.{Reaches}
use Rattle.cycle.specs.Rounds.{Step, Fewest, Upto, Layers, Back, Chosen, StartOf, Rest, FirstStep}
use Rattle.cycle.proofs.Layering.{reach_alive, last_reach, fewest_on, fewest_next}

above : {a s : ℕ} → s ≤ a → ¬ (a ≡ s) → s + 1 ≤ a
above {a} {s} h n = tri {C = s + 1 ≤ a} a s (λ l. absurd (omega arith)) (λ e. absurd (n e)) (λ l. omega arith)

reach_of : {R : Rel} {a b : ℕ} (xs : List ℕ) → Walk R a xs b → Reaches R a b (length xs + 1)
reach_of xs v = record { by = xs; walk = v; long = refl }

-- ---- a closed walk of numbers from s on, or one as long from a number below s

-- from a to b by way of a number below s
record ByWay (R : Rel) (s a b k : ℕ) : Type 0 where
  pub by : ℕ
  pub low : by < s
  pub there : List ℕ
  pub back : List ℕ
  pub to : Walk R a there by
  pub on : Walk R by back b
  pub long : length back + 1 + (length there + 1) ≡ k

way_round : {R : Rel} {s a k : ℕ} (y : ByWay R s a a k) → Reaches R y.by y.by k
way_round {R} {a = a} y = record {
  by = y.back ++ a ∷ y.there;
  walk = joined R y.by y.back a y.there y.by y.on y.to;
  long = omega (arith, length-append y.back (a ∷ y.there), y.long);
}

module _ {w s : ℕ} {alive rest : List (List ℕ)} (q : Rest w alive rest s) (n : ℕ) (m : List (List ℕ)) where
  rest_walk : (a : ℕ) (xs : List ℕ) (b : ℕ) → Walk (Step w n m rest) a xs b → Walk (Step w n m alive) a xs b
  rest_walk a [] b r = record { left = (q.only a r.left).0; right = (q.only b r.right).0; cell = r.cell }
  rest_walk a (x ∷ xs) b (r, v) = (record { left = (q.only a r.left).0; right = (q.only x r.right).0; cell = r.cell }, rest_walk x xs b v)

  rest_reach : {a b k : ℕ} → Reaches (Step w n m rest) a b k → Reaches (Step w n m alive) a b k
  rest_reach {a} {b} z = record { by = z.by; walk = rest_walk a z.by b z.walk; long = z.long }

  ways : (a : ℕ) (xs : List ℕ) (b : ℕ) → s ≤ a → s ≤ b → Walk (Step w n m alive) a xs b → Walk (Step w n m rest) a xs b ⊎ ByWay (Step w n m alive) s a b (length xs + 1)
  ways a [] b h g r = inl (record { left = q.all a r.left h; right = q.all b r.right g; cell = r.cell })
  ways a (y ∷ ys) b h g (r, v) = by (dec_lt y s) (λ l. ways y ys b l g v)
    where
      by : Dec (y < s) → (s ≤ y → Walk (Step w n m rest) y ys b ⊎ ByWay (Step w n m alive) s y b (length ys + 1)) → Walk (Step w n m rest) a (y ∷ ys) b ⊎ ByWay (Step w n m alive) s a b (length (y ∷ ys) + 1)
      by (yes l) on = inr (record { by = y; low = l; there = []; back = ys; to = r; on = v; long = omega arith })
      by (no l) on =
          ⊎_map (λ z. (record { left = q.all a r.left h; right = q.all y r.right (omega arith); cell = r.cell }, z))
          (λ z. record { by = z.by; low = z.low; there = y ∷ z.there; back = z.back; to = (r, z.to); on = z.on; long = omega (arith, z.long) })
          (on (omega arith))

  -- what leads back to s takes as many steps as among the rest, or as from a number below s
  few_by :
      {best r : ℕ} → ((a : ℕ) → a < s → On w alive a 0 → (k : ℕ) → Reaches (Step w n m alive) a a k → best ≤ k)
      → ((k : ℕ) → Reaches (Step w n m rest) s s k → r ≤ k) → (k : ℕ) → Reaches (Step w n m alive) s s k → (r ≤ k) ⊎ (best ≤ k)
  few_by below here k z =
      ⊎_map (λ v. here k (record { by = z.by; walk = v; long = z.long }))
      (λ y. let round = way_round y in below y.by y.low (reach_alive round) k (subst (Reaches (Step w n m alive) y.by y.by) z.long round))
      (ways s z.by s (omega arith) (omega arith) z.walk)

-- nothing between is alive
pub rest_next : {w at s : ℕ} {alive rest : List (List ℕ)} → Gap w alive 0 at s → Rest w alive rest at → Rest w alive rest s
rest_next {w} {at} {s} {alive} gap q = record { all = λ a o h. q.all a o (omega (arith, gap.from)); only = λ a o. let (u, h) = q.only a o in (u, by a u h (dec_lt a s)) }
  where
    by : (a : ℕ) → On w alive a 0 → at ≤ a → Dec (a < s) → s ≤ a
    by a u h (yes l) = absurd (gap.empty a h l u)
    by a u h (no l) = omega arith

-- s is left out
pub rest_less :
    {w s : ℕ} {alive rest rest' : List (List ℕ)} → MadeRow w 0 (λ x. On w rest x 0 × (¬ (x ≡ s))) rest rest' → Rest w alive rest s
    → Rest w alive rest' (s + 1)
rest_less d q = record {
  all = λ a o h. d.all a (q.all a o (omega arith), λ e. omega (arith, e));
  only = λ a o. let (p, other) = d.only a o in let (u, h) = q.only a p in (u, above h other);
}

-- ---- the start

-- at is the first of all numbers before s from which the fewest steps lead back, and they are best
pub record Sofar (w n : ℕ) (m alive : List (List ℕ)) (best : ℕ) (at : Option ℕ) (s : ℕ) : Type 0 where
  pub small : best ≤ n + 1
  pub few : (a : ℕ) → a < s → On w alive a 0 → (k : ℕ) → Reaches (Step w n m alive) a a k → best ≤ k
  pub unset : at ≡ None → best ≡ n + 1
  pub low : (t : ℕ) → at ≡ Some t → best ≤ n
  pub reach : (t : ℕ) → at ≡ Some t → Reaches (Step w n m alive) t t best
  pub first : (t : ℕ) → at ≡ Some t → (a k : ℕ) → a < t → Reaches (Step w n m alive) a a k → best < k

module _ {w n : ℕ} {m alive : List (List ℕ)} where
  -- nothing between is alive
  pub sofar_next : {best lo s : ℕ} {at : Option ℕ} → Gap w alive 0 lo s → Sofar w n m alive best at lo → Sofar w n m alive best at s
  sofar_next {best} gap p = record {
    small = p.small;
    few = along_next (λ a. (k : ℕ) → Reaches (Step w n m alive) a a k → best ≤ k) gap p.few;
    unset = p.unset;
    low = p.low;
    reach = p.reach;
    first = p.first;
  }

  module _ {best s r : ℕ} {at : Option ℕ} {rest layers : List (List ℕ)} (q : Rest w alive rest s) (b : Back (Step w n m rest) w s best r layers) where
    pub start_take : r < best → s < n → Sofar w n m alive best at s → Sofar w n m alive r (Some s) (s + 1)
    start_take l h p = record {
      small = omega (arith, p.small);
      few = along_more (λ a. (k : ℕ) → Reaches (Step w n m alive) a a k → r ≤ k) (λ a g o k z. omega (arith, p.few a g o k z)) (λ o k z. ⊎_elim (λ h. h) (λ h. omega arith) (few_by q n m p.few b.few k z));
      unset = λ e. cc;
      low = λ u e. omega (arith, p.small);
      reach = λ u e. let i : s ≡ u = cc in subst (λ (x : ℕ). Reaches (Step w n m alive) x x r) i (rest_reach q n m (b.reach l));
      first = λ u e a k g z. let i : s ≡ u = cc in omega (arith, p.few a (omega arith) (reach_alive z) k z);
    }

    pub start_keep : best ≤ r → Sofar w n m alive best at s → Sofar w n m alive best at (s + 1)
    start_keep l p = record {
      small = p.small;
      few = along_more (λ a. (k : ℕ) → Reaches (Step w n m alive) a a k → best ≤ k) p.few (λ o k z. ⊎_elim (λ h. omega arith) (λ h. h) (few_by q n m p.few b.few k z));
      unset = p.unset;
      low = p.low;
      reach = p.reach;
      first = p.first;
    }

  module _ (low : (a : ℕ) → On w alive a 0 → a < n) where
    pub start_end : {best s : ℕ} {at : Option ℕ} → n ≤ s → Sofar w n m alive best at s → StartOf (Step w n m alive) n at
    start_end {best} {s} {at} l p = record {
      none = λ h a k z. omega (arith, few a k z, p.unset h);
      there = λ t e. record { best = best; small = p.low t e; reach = p.reach t e; few = few; first = λ a k g z. p.first t e a k g z };
    }
      where
        few : (a k : ℕ) → Reaches (Step w n m alive) a a k → best ≤ k
        few a k z = let o = reach_alive z in p.few a (omega (arith, low a o)) o k z

    step_within : Within n (Step w n m alive)
    step_within = record { left = λ r. low _ r.left; right = λ r. r.cell.row }

    pub no_start : {start : Option ℕ} → start ≡ None → StartOf (Step w n m alive) n start → LeastCycle (Step w n m alive) None
    no_start h f = Least.absent no_cycle
      where
        no_cycle : (c : List ℕ) → ¬ IsCycle (Step w n m alive) c
        no_cycle [] c = c
        no_cycle (a ∷ xs) c = omega (arith, cycle_fits (Step w n m alive) n step_within (a ∷ xs) c, f.none h a (length xs + 1) (reach_of xs c.1))

-- the least closed walk from the start is the least cycle
pub start_found :
    {R : Rel} {n s len : ℕ} {l : List ℕ} → Chosen R n s → ((k : ℕ) → Reaches R s s k → len ≤ k) → LeastTail R s s len l → LeastCycle R (Some (s ∷ l))
start_found {R} {n} {s} {len} f few t =
    least_closed_walk R t (λ a xs v. omega (arith, short, f.few a (length xs + 1) (reach_of xs v))) (λ a xs v e. first a xs v e (dec_lt a s))
  where
    short : len ≤ f.best
    short = few f.best f.reach

    first : (a : ℕ) (xs : List ℕ) → Walk R a xs a → length xs + 1 ≡ len → Dec (a < s) → s ≤ a
    first a xs v e (yes l) = absurd (omega (arith, f.first a (length xs + 1) l (reach_of xs v), short))
    first a xs v e (no l) = omega arith

-- ---- the way

-- the fewest steps from a to s are those that are left at place i of a closed walk of len
pub record Left (R : Rel) (s len a i : ℕ) : Type 0 where
  pub steps : ℕ
  pub is : steps + i ≡ len + 1
  pub fewest : Fewest R s steps a

-- from s itself all are left
module _ {R : Rel} {w n s r : ℕ} {layers : List (List ℕ)} (b : Back R w s (n + 1) r layers) (u : Upto R s n s) where
  pub back_short : r < n + 1
  back_short = omega (arith, b.few u.steps u.reach, u.few)

  pub back_some : 1 ≤ r
  back_some = omega (arith, (b.reach back_short).long)

  pub left_all : Left R s r s 1
  left_all = record { steps = r; is = refl; fewest = record { reach = b.reach back_short; none = λ i l z. omega (arith, b.few i z) } }

-- and one from the last number
pub left_one : {R : Rel} {s len a : ℕ} → Left R s len a len → R a s
left_one {R} {s} {len} {a} p = last_reach (subst (Reaches R a s) (omega (arith, p.is)) p.fewest.reach)

module _ {w n s len a i x : ℕ} {m alive layers : List (List ℕ)} (b : Back (Step w n m alive) w s (n + 1) len layers) (u : Upto (Step w n m alive) s n s) (l : i < len) (p : Left (Step w n m alive) s len a i)
    (f : FirstStep w n m layers (len - i - 1) a x) where
  made : Layers (Step w n m alive) w s len layers
  made = b.made (back_short b u)

  here : Fewest (Step w n m alive) s (len - i - 1 + 1 + 1) a
  here = subst (λ (k : ℕ). Fewest (Step w n m alive) s k a) (omega (arith, p.is)) p.fewest

  -- what next_of looks for is there
  pub next_there : x < n
  next_there = by (dec_lt x n)
    where
      by : Dec (x < n) → x < n
      by (yes h) = h
      by (no h) =
          let (c, (r, g)) = fewest_next (len - i - 1) here in
          absurd (f.before c (omega (arith, r.cell.row)) (made.all c (len - i - 1) (omega arith) g) r.cell.on)

  at_next : Fewest (Step w n m alive) s (len - i - 1 + 1) x
  at_next = made.only x (len - i - 1) (omega arith) (f.hit next_there).1

  pub next_step : Step w n m alive a x
  next_step = record { left = reach_alive here.reach; right = reach_alive at_next.reach; cell = record { row = next_there; on = (f.hit next_there).0 } }

  pub next_left : Left (Step w n m alive) s len x (i + 1)
  next_left = record { steps = len - i - 1 + 1; is = omega arith; fewest = at_next }

  pub next_least : (y : ℕ) (xs : List ℕ) → Step w n m alive a y → Walk (Step w n m alive) y xs s → length xs + 1 + i ≡ len → x ≤ y
  next_least y xs r v e = by (dec_lt y x)
    where
      k : length xs + 1 ≡ len - i - 1 + 1
      k = omega arith

      by : Dec (y < x) → x ≤ y
      by (yes h) =
          let g = fewest_on here r (subst (Reaches (Step w n m alive) y s) k (reach_of xs v)) in
          absurd (f.before y h (made.all y (len - i - 1) (omega arith) g) r.cell.on)
      by (no h) = omega arith

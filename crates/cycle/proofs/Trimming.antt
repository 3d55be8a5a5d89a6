-- What is on a cycle has something on a cycle before it and after it: dropping what has not keeps every cycle.
use Rattle.std.specs.Prelude.{None}
use mathlib.Core.Path.{◌≡◌, refl, sym, subst}
use mathlib.Core.List.{List, [], ◌∷◌}
use mathlib.Core.Logic.{◌⊎◌, inl, inr}
use Prim.Native.Nat.{ℕ, ◌+◌, ◌≤◌, ◌<◌}
use native.Mathlib.Omega.{arith}
use native.Mathlib.Decide.{dec_lt}
use Rattle.laws.specs.Steps.{Rel, Plus, Plus.one, Plus.more, Walk, IsCycle}
use Rattle.laws.specs.Least.{Least, LeastCycle}
use Rattle.laws.specs.Witness.{Witness, CycleWith, CycleWith.cycle_with}
use Rattle.laws.proofs.Closure.{tri}
use Rattle.laws.proofs.Least.{cycle_to}
use Rattle.laws.proofs.Says.{by_dec}
use Rattle.laws.proofs.Steps.{plus_last, plus_trans, plus_rises}
use Rattle.laws.proofs.Walks.{walk_plus}
use Rattle.rows.specs.declared.set.Set.{Set}
use Rattle.rows.specs.Sets.{In, Is}
use Rattle.rows.specs.Rows.{On, Cell, MadeRow}
use Rattle.rows.proofs.Along.{Gap, gap_low}
use Rattle.cycle.specs.Trimmed.{Keeps, Feeds}
use Rattle.cycle.specs.Rounds.{Step}

module _ {R : Rel} where
  first_step : {a b : ℕ} → Plus R a b → (c : ℕ) × (R a c × ((c ≡ b) ⊎ Plus R c b))
  first_step {b = b} (one r) = (b, (r, inl refl))
  first_step {a} {b} (more {m = m} p r) = by (first_step p)
    where
      by : (c : ℕ) × (R a c × ((c ≡ m) ⊎ Plus R c m)) → (c : ℕ) × (R a c × ((c ≡ b) ⊎ Plus R c b))
      by (c, (q, inl e)) = (c, (q, inr (one (subst (λ (z : ℕ). R z b) (sym e) r))))
      by (c, (q, inr s)) = (c, (q, inr (more s r)))

  before_on_cycle : {a : ℕ} → Plus R a a → (p : ℕ) × (R p a × Plus R p p)
  before_on_cycle {a} q = let l = plus_last q in (l.from, (l.step, by l.from l.step l.rest))
    where
      by : (p : ℕ) → R p a → (a ≡ p) ⊎ Plus R a p → Plus R p p
      by p r (inl e) = subst (λ (z : ℕ). Plus R z z) e q
      by p r (inr s) = plus_trans (one r) s

  after_on_cycle : {a : ℕ} → Plus R a a → (c : ℕ) × (R a c × Plus R c c)
  after_on_cycle {a} q = by (first_step q)
    where
      by : (c : ℕ) × (R a c × ((c ≡ a) ⊎ Plus R c a)) → (c : ℕ) × (R a c × Plus R c c)
      by (c, (r, inl e)) = (c, (r, subst (λ (z : ℕ). Plus R z z) (sym e) q))
      by (c, (r, inr s)) = (c, (r, more s r))

  -- where no step goes back they rise
  pub rising : ¬ ((b : ℕ) × ((a : ℕ) × (R a b × (b ≤ a)))) → (a b : ℕ) → R a b → a < b
  rising n a b r = by_dec (dec_lt a b) (λ h. n (b, (a, (r, omega arith))))

  -- and there is no cycle
  pub none_back : ¬ ((b : ℕ) × ((a : ℕ) × (R a b × (b ≤ a)))) → LeastCycle R None
  none_back n = Least.absent no_cycle
    where
      no_cycle : (c : List ℕ) → ¬ IsCycle R c
      no_cycle [] c = c
      no_cycle (a ∷ xs) c = omega (arith, plus_rises (rising n) (walk_plus R a xs a c.1))

-- ---- what is dropped

module _ {w n : ℕ} {m : List (List ℕ)} where
  -- b is dropped, since nothing alive leads to it
  pub feeds_drop :
      {alive alive' : List (List ℕ)} {s : Set w} {b : ℕ} → ((a : ℕ) → ¬ (On w m a b × On w alive a 0))
      → MadeRow w 0 (λ x. On w alive x 0 × (¬ (x ≡ b))) alive alive' → Feeds w n m b alive s → Feeds w n m (b + 1) alive' s
  feeds_drop {alive} {alive'} {s} {b} unfed d f = record {
    keeps = record { low = λ a o. f.keeps.low a (d.only a o).0; cycles = λ a q. d.all a (f.keeps.cycles a q, other a q) };
    all = λ a c l q. tri c b (λ h. f.all a c h q) (λ e. absurd (other c q e)) (λ h. absurd (omega arith));
  }
    where
      other : (a : ℕ) → Plus (Cell w n m) a a → ¬ (a ≡ b)
      other a q e = let (p, (r, s)) = before_on_cycle q in unfed p (subst (On w m p) e r.on, f.keeps.cycles p s)

  -- what leads to b is taken in
  pub feeds_take :
      {alive : List (List ℕ)} {s t x : Set w} {b : ℕ} → Is x (λ a. On w m a b) → Is t (λ a. In s a ⊎ In x a) → Feeds w n m b alive s → Feeds w n m (b + 1) alive t
  feeds_take {x = x} {b = b} i j f = record {
    keeps = f.keeps;
    all = λ a c l q r. j.all a (tri {C = In _ a ⊎ In x a} c b (λ h. inl (f.all a c h q r)) (λ e. inr (i.all a (subst (On w m a) e r.on))) (λ h. absurd (omega arith)));
  }

  -- nothing between was alive
  pub feeds_next : {alive₀ alive : List (List ℕ)} {s : Set w} {at v : ℕ} → Keeps w n m alive₀ → Gap w alive₀ 0 at v → Feeds w n m at alive s → Feeds w n m v alive s
  feeds_next k gap f = record { keeps = f.keeps; all = λ a c l q. f.all a c (gap_low gap c l (k.cycles c q)) q }

  -- what leads to nothing on a cycle is dropped
  pub keeps_fed :
      {alive alive' : List (List ℕ)} {s x : Set w} → Feeds w n m n alive s → Is x (λ a. On w alive a 0 × In s a) → MadeRow w 0 (In x) alive alive'
      → Keeps w n m alive'
  keeps_fed {alive} {alive'} f i d = record { low = λ a o. f.keeps.low a (i.only a (d.only a o)).0; cycles = cycles }
    where
      cycles : (a : ℕ) → Plus (Cell w n m) a a → On w alive' a 0
      cycles a q =
          let (c, (r, s)) = after_on_cycle q in
          let o = f.keeps.cycles a q in
          d.all a (i.all a (o, f.all a c r.row s r))

  -- ---- cycles are kept

  module _ {alive : List (List ℕ)} (k : Keeps w n m alive) where
    walk_kept : (x : ℕ) (xs : List ℕ) (b : ℕ) → Walk (Cell w n m) x xs b → Plus (Cell w n m) b x → Walk (Step w n m alive) x xs b
    walk_kept x [] b r back = record { left = k.cycles x (plus_trans (one r) back); right = k.cycles b (more back r); cell = r }
    walk_kept x (y ∷ ys) b (r, v) back =
        let on = walk_plus (Cell w n m) y ys b v in
        (record { left = k.cycles x (plus_trans (one r) (plus_trans on back)); right = k.cycles y (plus_trans on (more back r)); cell = r }, walk_kept y ys b v (more back r))

    cycle_kept : (c : List ℕ) → IsCycle (Cell w n m) c → IsCycle (Step w n m alive) c
    cycle_kept [] z = z
    cycle_kept (a ∷ xs) z = (z.0, walk_kept a xs a z.1 (walk_plus (Cell w n m) a xs a z.1))

    pub witness_kept : (v : Witness) → CycleWith (IsCycle (Cell w n m)) v → CycleWith (IsCycle (Step w n m alive)) v
    witness_kept v (cycle_with {c = c} z) = cycle_with (cycle_kept c z)

  pub witness_was : {alive : List (List ℕ)} (v : Witness) → CycleWith (IsCycle (Step w n m alive)) v → CycleWith (IsCycle (Cell w n m)) v
  witness_was v (cycle_with {c = c} z) = cycle_with (cycle_to (λ a b s. s.cell) c z)

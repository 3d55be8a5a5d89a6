-- `whole::sorted` meets its contract: the numbers below a are in their rows.
use mathlib.Core.Path.{◌≡◌, refl, sym, ap}
use mathlib.Core.Logic.{◌⊎◌, inl, inr, ⊎_elim}
use mathlib.Core.List.{List}
use Prim.Native.Nat.{ℕ, ◌+◌, ◌≤◌, ◌<◌}
use native.Mathlib.Omega.{arith}
use borrow.Author.Count.{below_more}
use lib.ListN.{get_or}
use Rattle.rows.specs.Rows.{On, MadeRow, Made}
use Rattle.rows.proofs.Rows.{made_iff, made_row_iff, made_again}
use Rattle.rows.proofs.whole.sorted.Invariants.{Sorted}
use Rattle.rows.proofs.whole.sorted.Goals as goal
use Rattle.rows.proofs.whole.sorted.Goals.{then-l-h, else-l-h}

module _ (column : List ℕ) (a : ℕ) where
  wider : (x l : ℕ) → Sorted column a x l → Sorted column (a + 1) x l
  wider x l s = record { low = omega (arith, s.low); is = s.is }

  -- a itself, or a lower one
  of_more : {P : ℕ → Type 0} (l : ℕ) → (get_or column a 0 ≡ l → P a) → ((x : ℕ) → Sorted column a x l → P x) → (x : ℕ) → Sorted column (a + 1) x l → P x
  of_more {P} l f g x s = below_more (λ y. get_or column y 0 ≡ l → P y) a (λ y k e. g y (record { low = k; is = e })) f x s.low s.is

  sorted_more :
      {w h : ℕ} {out₀ out out' : List (List ℕ)} → Made w h (Sorted column a) out₀ out → get_or column a 0 < h
      → MadeRow w (get_or column a 0) (λ x. On w out x (get_or column a 0) ⊎ (x ≡ a)) out out' → Made w h (Sorted column (a + 1)) out₀ out'
  sorted_more m low r =
      let l = get_or column a 0 in
      made_again l low (λ x l ne. wider x l) (λ x l ne. of_more l (λ e. absurd (ne (sym e))) (λ y s. s) x) m
      (made_row_iff (λ x. ⊎_elim (λ o. wider x l (m.holds.only x l low o)) (λ e. record { low = omega arith; is = ap (λ (z : ℕ). get_or column z 0) e }))
      (of_more l (λ e. inr refl) (λ x s. inl (m.holds.all x l low s))) r)

  sorted_same : {w h : ℕ} {out₀ out : List (List ℕ)} → Made w h (Sorted column a) out₀ out → h ≤ get_or column a 0 → Made w h (Sorted column (a + 1)) out₀ out
  sorted_same m high = made_iff (λ x l k. wider x l) (λ x l k. of_more l (λ e. absurd (omega (arith, e, high))) (λ y s. s) x) m

pub loop-a-init : goal.loop-a-init
loop-a-init g c = made_iff (λ x l h z. absurd z) (λ x l h s. absurd (omega (arith, s.low))) c.clear.ensures

pub loop-a-preserved : goal.loop-a-preserved
loop-a-preserved g c = let turn = c.loop-a in
    let column = c.args.column.now in
    elim c.if-l-h.branch [
      | then-l-h w ↦ rw w.out-is (sorted_more column turn.a turn.invariant w.if-l-h.true w.add.ensures)
      | else-l-h w ↦ rw w.out-is (sorted_same column turn.a turn.invariant w.if-l-h.false)
    ]

pub returns : goal.returns
returns g c = let e : c.loop-a.a ≡ c.args.n = omega arith in
    made_iff (λ x l k s. (s.low, s.is)) (λ x l k z. record { low = z.0; is = z.1 }) (rw e at c.loop-a.invariant)

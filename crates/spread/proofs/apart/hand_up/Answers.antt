-- `apart::hand_up` meets its contract: the column's number is lower and its row takes the set in, or it leads nowhere.
use mathlib.Core.Path.{◌≡◌, refl, sym}
use mathlib.Core.List.{List}
use mathlib.Core.Logic.{◌⊎◌, inl, inr, ⊎_elim}
use Prim.Native.Nat.{ℕ, ◌≤◌, ◌<◌}
use native.Mathlib.Omega.{arith}
use lib.ListN.{get_or}
use Rattle.rows.specs.declared.set.Set.{Set}
use Rattle.rows.specs.Sets.{In, Is}
use Rattle.rows.specs.Rows.{On, MadeRow, Made}
use Rattle.rows.proofs.Rows.{holds_itself, made_held, made_iff, made_row_iff, made_again}
use Rattle.spread.specs.Handed.{HandedUp, HandedUp.was, HandedUp.handed}
use Rattle.spread.proofs.apart.hand_up.Goals as goal

module _ {w n b : ℕ} (column : List ℕ) (m : List (List ℕ)) (s : Set w) (low : b < n) where
  -- another row has what it had
  elsewhere : (a p : ℕ) → ¬ (p ≡ get_or column b 0) → HandedUp w column m b s a p → On w m a p
  elsewhere a p ne (was o) = o
  elsewhere a p ne (handed l _) = absurd (ne (sym l.is))

  taken_in :
      {r t : Set w} {m' : List (List ℕ)} → get_or column b 0 < b → Is r (λ a. On w m a (get_or column b 0)) → Is t (λ a. In r a ⊎ In s a)
      → MadeRow w (get_or column b 0) (In t) m m' → Made w n (HandedUp w column m b s) m m'
  taken_in {r} {t} {m'} falls i j k =
      made_again (get_or column b 0) (omega arith) (λ a p ne. was) elsewhere (made_held (holds_itself w n m)) (made_row_iff to back k)
    where
      to : (a : ℕ) → In t a → HandedUp w column m b s a (get_or column b 0)
      to a x = ⊎_elim (λ y. was (i.only a y)) (λ y. handed (record { is = refl; falls = falls }) y) (j.only a x)

      back : (a : ℕ) → HandedUp w column m b s a (get_or column b 0) → In t a
      back a (was o) = j.all a (inl (i.all a o))
      back a (handed _ y) = j.all a (inr y)

  led_nowhere : b ≤ get_or column b 0 → Made w n (HandedUp w column m b s) m m
  led_nowhere later = made_iff (λ a p l. was) (λ a p l. only a p) (made_held (holds_itself w n m))
    where
      only : (a p : ℕ) → HandedUp w column m b s a p → On w m a p
      only a p (was o) = o
      only a p (handed l _) = absurd (omega (arith, later, l.is, l.falls))

pub returns-then-v-b : goal.returns-then-v-b
returns-then-v-b g c = let a = c.args in
    taken_in a.column.now a.m.now a.«set».now c.requires.0 c.if-v-b.true c.row.ensures c.or-joined.ensures c.put.ensures

pub returns-else-v-b : goal.returns-else-v-b
returns-else-v-b g c = let a = c.args in led_nowhere a.column.now a.m.now a.«set».now c.requires.0 c.if-v-b.false

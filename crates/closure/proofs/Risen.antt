-- A row of the closure of a relation that rises: what it has so far, while the numbers that step to it are taken in.
use mathlib.Core.Path.{◌≡◌, refl, sym, subst}
use mathlib.Core.List.{List}
use mathlib.Core.Logic.{◌⊎◌, inl, inr, ⊎_elim}
use Prim.Native.Nat.{ℕ, zero, suc, ◌+◌, ◌*◌, ◌≤◌, ◌<◌}
use native.Mathlib.Omega.{arith}
use native.Mathlib.Decide.{dec_lt}
use lib.ListN.{length}
use Rattle.laws.specs.Steps.{Plus, Plus.one, Plus.more}
use Rattle.rows.specs.Rows.{On, Holds, Cell, Outside, MadeRow}
use Rattle.rows.specs.Steps.{Then}
use Rattle.rows.specs.Found.{LastOf}
use Rattle.rows.proofs.Parts.{outside_trans}
use Rattle.rows.proofs.Rows.{on_dec, holds_beside, room_kept}
use Rattle.rows.proofs.Steps.{plus_before}
use Rattle.closure.specs.Classes.{Rising}

-- the rows before b are done; row b of out is closed, and a number that steps to b is either in it or in left; row b of over follows it
pub record Risen (w n b : ℕ) (m x out over left : List (List ℕ)) : Type 0 where
  pub out_before : Holds w b (Plus (Cell w n m)) out
  pub over_before : Holds w b (Then (On w x) (Plus (Cell w n m))) over
  pub sound : (a : ℕ) → On w out a b → Plus (Cell w n m) a b
  pub closed : (a c : ℕ) → Cell w n m a c → On w out c b → On w out a b
  pub steps : (a : ℕ) → On w left a 0 → Cell w n m a b
  pub each : (a : ℕ) → Cell w n m a b → On w left a 0 ⊎ On w out a b
  pub apart : (a : ℕ) → On w left a 0 → ¬ On w out a b
  pub led : (a : ℕ) → On w over a b → Then (On w x) (On w out) a b
  pub leads : (a : ℕ) → Then (On w x) (On w out) a b → On w over a b

-- so it is at each turn of the loop; v is the next to be taken in
pub record Turn (w n b : ℕ) (m x out₀ over₀ left₀ out over left : List (List ℕ)) (v : ℕ) : Type 0 where
  pub rooms : Rising w n m x out over left
  pub risen : Risen w n b m x out over left
  pub next : LastOf w left 0 v
  pub out_rest : Outside b (b + 1) out₀ out
  pub over_rest : Outside b (b + 1) over₀ over
  pub left_rest : Outside 0 1 left₀ left

pub rooms_kept :
    {w n : ℕ} {m x out over left out' over' left' : List (List ℕ)} → Rising w n m x out over left → length out' ≡ length out → length over' ≡ length over
    → length left' ≡ length left → Rising w n m x out' over' left'
rooms_kept r e f g = record {
  for_m = r.for_m;
  for_x = r.for_x;
  for_out = room_kept e r.for_out;
  for_over = room_kept f r.for_over;
  for_left = room_kept g r.for_left;
  rises = r.rises;
}

-- v and row v are taken in
module _
    {w n b v : ℕ} {m x out over left out' over' left' : List (List ℕ)} (low : v < b) (h : Risen w n b m x out over left) (here : On w left v 0)
    (p : MadeRow w b (λ a. (On w out a b ⊎ On w out a v) ⊎ (a ≡ v)) out out')
    (q : MadeRow w b (λ a. (On w over a b ⊎ On w over a v) ⊎ On w x a v) over over')
    (s : MadeRow w 0 (λ a. On w left a 0 × (¬ On w out' a b)) left left')
  where
    step : Cell w n m v b
    step = h.steps v here

    -- what leads to v is taken in
    taken : (a : ℕ) → Plus (Cell w n m) a v → On w out' a b
    taken a r = p.all a (inl (inr (h.out_before.all a v low r)))

    led_more : (a : ℕ) → (On w over a b ⊎ On w over a v) ⊎ On w x a v → Then (On w x) (On w out') a b
    led_more a (inl (inl o)) = let t = h.led a o in record { mid = t.mid; first = t.first; next = p.all t.mid (inl (inl t.next)) }
    led_more a (inl (inr o)) = let t = h.over_before.only a v low o in record { mid = t.mid; first = t.first; next = taken t.mid t.next }
    led_more a (inr o) = record { mid = v; first = o; next = p.all v (inr refl) }

    more_led : (a : ℕ) (t : Then (On w x) (On w out') a b) → (On w out t.mid b ⊎ On w out t.mid v) ⊎ (t.mid ≡ v)
        → (On w over a b ⊎ On w over a v) ⊎ On w x a v
    more_led a t (inl (inl o)) = inl (inl (h.leads a (record { mid = t.mid; first = t.first; next = o })))
    more_led a t (inl (inr o)) =
        inl (inr (h.over_before.all a v low (record { mid = t.mid; first = t.first; next = h.out_before.only t.mid v low o })))
    more_led a t (inr e) = inr (subst (On w x a) e t.first)

    still : (a : ℕ) → On w left a 0 ⊎ On w out a b → Dec (On w out' a b) → On w left' a 0 ⊎ On w out' a b
    still a z (yes o) = inr o
    still a (inl l) (no o) = inl (s.all a (l, o))
    still a (inr l) (no o) = inr (p.all a (inl (inl l)))

    risen_more : Risen w n b m x out' over' left'
    risen_more = record {
      out_before = holds_beside h.out_before p;
      over_before = holds_beside h.over_before q;
      sound = λ a o.
          ⊎_elim (⊎_elim (h.sound a) (λ z. more (h.out_before.only a v low z) step)) (λ e. one (subst (λ (z : ℕ). Cell w n m z b) (sym e) step)) (p.only a o);
      closed = λ a c r o.
          ⊎_elim (⊎_elim (λ z. p.all a (inl (inl (h.closed a c r z)))) (λ z. taken a (plus_before r (h.out_before.only c v low z))))
          (λ e. taken a (one (subst (Cell w n m a) e r))) (p.only c o);
      steps = λ a o. h.steps a (s.only a o).0;
      each = λ a r. still a (h.each a r) (on_dec w out' a b);
      apart = λ a l. (s.only a l).1;
      led = λ a o. led_more a (q.only a o);
      leads = λ a t. q.all a (more_led a t (p.only t.mid t.next));
    }

-- how many turns are left at most: none once v is not below b
abbrev turns_by : {P : Type 0} → Dec P → ℕ → ℕ
turns_by (yes _) v = suc v
turns_by (no _) v = zero

abbrev pub turns : ℕ → ℕ → ℕ
turns v b = turns_by (dec_lt v b) v

turns_fall : {v v' b : ℕ} → v < b → (v' < b → v' < v) → turns v' b < turns v b
turns_fall {v} {v'} {b} low f = by (dec_lt v b) (dec_lt v' b)
  where
    by : (d : Dec (v < b)) (d' : Dec (v' < b)) → turns_by d' v' < turns_by d v
    by (no n) d = absurd (n low)
    by (yes l) (no n) = omega arith
    by (yes l) (yes k) = let h : v' < v = f k in omega arith

-- one turn
module _ {w n b v : ℕ} {m x out₀ over₀ left₀ out over left : List (List ℕ)} (less : b < n) (low : v < b) (t : Turn w n b m x out₀ over₀ left₀ out over left v) where
  here : On w left v 0
  here = t.next.on (omega (arith, t.rooms.for_m.wide))

  module _ {v' : ℕ} {out' over' left' : List (List ℕ)} (p : MadeRow w b (λ a. (On w out a b ⊎ On w out a v) ⊎ (a ≡ v)) out out') where
    pub turn_more :
        MadeRow w b (λ a. (On w over a b ⊎ On w over a v) ⊎ On w x a v) over over' → MadeRow w 0 (λ a. On w left a 0 × (¬ On w out' a b)) left left'
        → LastOf w left' 0 v' → Turn w n b m x out₀ over₀ left₀ out' over' left' v'
    turn_more q s l = record {
      rooms = rooms_kept t.rooms p.rest.size q.rest.size s.rest.size;
      risen = risen_more low t.risen here p q s;
      next = l;
      out_rest = outside_trans t.out_rest p.rest;
      over_rest = outside_trans t.over_rest q.rest;
      left_rest = outside_trans t.left_rest s.rest;
    }

    -- what is left then is lower: it was left before, and v is not
    pub turn_less : Turn w n b m x out₀ over₀ left₀ out' over' left' v' → turns v' b < turns v b
    turn_less t' = turns_fall low lower
      where
        lower : v' < b → v' < v
        lower k = ⊎_elim (λ o. by (dec_lt v' v) (t.next.past v' o)) (λ o. absurd (off (p.all v' (inl (inl o))))) (t.risen.each v' (t'.risen.steps v' on))
          where
            on : On w left' v' 0
            on = t'.next.on (omega (arith, t.rooms.for_m.wide))

            off : ¬ On w out' v' b
            off = t'.risen.apart v' on

            by : Dec (v' < v) → v' ≤ v → v' < v
            by (yes z) le = z
            by (no z) le = let e : v' ≡ v = omega arith in absurd (off (p.all v' (inr e)))

-- nothing is left
module _ {w n b v : ℕ} {m x out₀ over₀ left₀ out over left : List (List ℕ)} (high : b ≤ v) (t : Turn w n b m x out₀ over₀ left₀ out over left v) where
  none_left : (a : ℕ) → ¬ On w left a 0
  none_left a o = by (dec_lt v (64 * w))
    where
      by : Dec (v < 64 * w) → ⊥
      by (yes l) = let k : v < b = t.rooms.rises v b (t.risen.steps v (t.next.on l)) in omega arith
      by (no l) = t.next.none (omega (arith, t.next.high)) a o

  of_step : (a : ℕ) → Cell w n m a b → On w out a b
  of_step a r = ⊎_elim (λ o. absurd (none_left a o)) (λ o. o) (t.risen.each a r)

  -- what leads to a number of the row is in the row
  of_plus : {a c : ℕ} → Plus (Cell w n m) a c → On w out c b → On w out a b
  of_plus {a} {c} (one r) o = t.risen.closed a c r o
  of_plus {c = c} (more {m = k} q r) o = of_plus q (t.risen.closed k c r o)

  all_steps : (a : ℕ) → Plus (Cell w n m) a b → On w out a b
  all_steps a (one r) = of_step a r
  all_steps a (more {m = k} q r) = of_plus q (of_step k r)

  pub out_done : MadeRow w b (λ a. Plus (Cell w n m) a b) out₀ out
  out_done = record { rest = t.out_rest; all = all_steps; only = t.risen.sound }

  pub over_done : MadeRow w b (λ a. Then (On w x) (Plus (Cell w n m)) a b) over₀ over
  over_done = record {
    rest = t.over_rest;
    all = λ a z. t.risen.leads a (record { mid = z.mid; first = z.first; next = all_steps z.mid z.next });
    only = λ a o. let z = t.risen.led a o in record { mid = z.mid; first = z.first; next = t.risen.sound z.mid z.next };
  }

  pub left_done : MadeRow w 0 (λ a. ⊥) left₀ left
  left_done = record { rest = t.left_rest; all = λ a z. absurd z; only = none_left }

-- Rows that are read and made.
use mathlib.Core.Path.{◌≡◌, refl, sym, ap, subst, ◌∙◌}
use mathlib.Core.List.{List, []}
use mathlib.Core.Logic.{◌⊎◌, ⊎_map}
use Prim.Native.Nat.{ℕ, zero, suc, ◌+◌, ◌*◌, ◌/◌, ◌%◌, ◌<◌}
use native.Mathlib.Omega.{arith}
use native.Mathlib.Decide.{ℕ_discrete, dec_lt}
use lib.ListN.{length, get_or, set, replicate}
use lib.Seq.{get_or-set_same}
use borrow.Author.Count.{below_more}
use Rattle.laws.proofs.Closure.{tri}
use Rattle.rows.specs.declared.set.Set.{Set}
use Rattle.rows.specs.Sets.{digit, with_bit, without_bit, In, Is}
use Rattle.rows.specs.Rows.{On, Holds, Room, Given, Outside, MadeRow, Made}
use Rattle.rows.proofs.Digits.{digit_dec, never_in_zero}
use Rattle.rows.proofs.Sets.{set_add, set_drop}
use Rattle.rows.proofs.Parts.{outside_none, outside_wider, outside_trans, outside_set, zeros}

pub on_dec : (w : ℕ) (m : List (List ℕ)) (a b : ℕ) → Dec (On w m a b)
on_dec w m a b = by (dec_lt a (64 * w)) (digit_dec (get_or (get_or m b []) (a / 64) 0) (a % 64))
  where
    by : Dec (a < 64 * w) → Dec (digit (get_or (get_or m b []) (a / 64) 0) (a % 64) ≡ 1) → Dec (On w m a b)
    by (yes l) (yes e) = yes (record { col = l; is1 = e })
    by (yes l) (no n) = no (λ o. n o.is1)
    by (no n) d = no (λ o. n o.col)

-- a row is the set of its words
pub is_row : (w : ℕ) (m : List (List ℕ)) (b : ℕ) → Is {W = w} (record { words = get_or m b [] }) (λ a. On w m a b)
is_row w m b = record { all = λ a o. record { col = o.col; is1 = o.is1 }; only = λ a i. record { col = i.col; is1 = i.is1 } }

pub made_row_iff :
    {w b : ℕ} {P Q : ℕ → Type 0} {m m' : List (List ℕ)} → ((a : ℕ) → P a → Q a) → ((a : ℕ) → Q a → P a) → MadeRow w b P m m' → MadeRow w b Q m m'
made_row_iff f g r = record { rest = r.rest; all = λ a q. r.all a (g a q); only = λ a o. f a (r.only a o) }

-- row b becomes these words
pub row_made : {w b : ℕ} {P : ℕ → Type 0} {m : List (List ℕ)} (words : List ℕ) → b < length m → Is {W = w} (record { words = words }) P → MadeRow w b P m (set m b words)
row_made {w} {b} {P} {m} words l i = record {
  rest = outside_set b words (omega arith) (omega arith) outside_none;
  all = λ x p. let h = i.all x p in record { col = h.col; is1 = at x ∙ h.is1 };
  only = λ x o. i.only x (record { col = o.col; is1 = sym (at x) ∙ o.is1 });
}
  where
    at : (x : ℕ) → digit (get_or (get_or (set m b words) b []) (x / 64) 0) (x % 64) ≡ digit (get_or words (x / 64) 0) (x % 64)
    at x = ap (λ (z : List ℕ). digit (get_or z (x / 64) 0) (x % 64)) (get_or-set_same m b words [] l)

module _ (w a b : ℕ) {m : List (List ℕ)} (col : a < 64 * w) (low : b < length m) (long : length (get_or m b []) ≡ w) where
  pub row_add : MadeRow w b (λ x. On w m x b ⊎ (x ≡ a)) m (set m b (with_bit (get_or m b []) a))
  row_add = made_row_iff (λ x. ⊎_map (row.only x) (λ e. e)) (λ x. ⊎_map (row.all x) (λ e. e)) (row_made (with_bit (get_or m b []) a) low (set_add a col long))
    where
      row : Is {W = w} (record { words = get_or m b [] }) (λ x. On w m x b)
      row = is_row w m b

  pub row_drop : MadeRow w b (λ x. On w m x b × (¬ (x ≡ a))) m (set m b (without_bit (get_or m b []) a))
  row_drop = made_row_iff (λ x z. (row.only x z.0, z.1)) (λ x z. (row.all x z.0, z.1)) (row_made (without_bit (get_or m b []) a) low (set_drop a col long))
    where
      row : Is {W = w} (record { words = get_or m b [] }) (λ x. On w m x b)
      row = is_row w m b

-- a row that was made to be a set
pub made_row_is : {w b : ℕ} {P : ℕ → Type 0} {s : Set w} {m m' : List (List ℕ)} → Is s P → MadeRow w b (In s) m m' → MadeRow w b P m m'
made_row_is i = made_row_iff i.only i.all

-- a row that is changed again
pub made_row_trans : {w b : ℕ} {P Q : ℕ → Type 0} {m₀ m m' : List (List ℕ)} → MadeRow w b Q m₀ m → MadeRow w b P m m' → MadeRow w b P m₀ m'
made_row_trans p r = record { rest = outside_trans p.rest r.rest; all = r.all; only = r.only }

-- another row is kept
row_kept : {m m' : List (List ℕ)} (b c : ℕ) → ¬ (c ≡ b) → Outside b (b + 1) m m' → get_or m' c [] ≡ get_or m c []
row_kept b c ne o = tri c b (o.below c) (λ e. absurd (ne e)) (λ l. o.past c (omega arith))

-- what another row has is kept
module _ {w : ℕ} {m m' : List (List ℕ)} (b : ℕ) (o : Outside b (b + 1) m m') {a c : ℕ} (ne : ¬ (c ≡ b)) where
  pub on_kept : On w m a c → On w m' a c
  on_kept x = record { col = x.col; is1 = ap (λ (z : List ℕ). digit (get_or z (a / 64) 0) (a % 64)) (row_kept b c ne o) ∙ x.is1 }

  pub on_was : On w m' a c → On w m a c
  on_was x = record { col = x.col; is1 = sym (ap (λ (z : List ℕ). digit (get_or z (a / 64) 0) (a % 64)) (row_kept b c ne o)) ∙ x.is1 }

pub holds_none : {w : ℕ} {R : ℕ → ℕ → Type 0} {m : List (List ℕ)} → Holds w 0 R m
holds_none = record { all = λ a b l. absurd (omega arith); only = λ a b l. absurd (omega arith) }

pub made_none : {w : ℕ} {R : ℕ → ℕ → Type 0} {m : List (List ℕ)} → Made w 0 R m m
made_none = record { rest = outside_none; holds = holds_none }

-- one row more
pub made_more : {w n : ℕ} {R : ℕ → ℕ → Type 0} {m₀ m m' : List (List ℕ)} → Made w n R m₀ m → MadeRow w n (λ a. R a n) m m' → Made w (n + 1) R m₀ m'
made_more {w} {n} {R} {m₀} {m} {m'} k r =
    record {
      rest = outside_trans (outside_wider (omega arith) (omega arith) k.rest) (outside_wider (omega arith) (omega arith) r.rest);
      holds = record {
        all = λ a. below_more (λ b. R a b → On w m' a b) n (λ b l x. on_kept n r.rest (λ e. omega (arith, e)) (k.holds.all a b l x)) (r.all a);
        only = λ a. below_more (λ b. On w m' a b → R a b) n (λ b l o. k.holds.only a b l (on_was n r.rest (λ e. omega (arith, e)) o)) (r.only a);
      };
    }

-- one row more, where what the rest was does not matter
pub holds_more : {w n : ℕ} {R : ℕ → ℕ → Type 0} {m m' : List (List ℕ)} → Holds w n R m → MadeRow w n (λ a. R a n) m m' → Holds w (n + 1) R m'
holds_more h r = (made_more (record { rest = outside_none; holds = h }) r).holds

-- all of the rows, where a loop over them ends
pub made_whole : {w b n : ℕ} {R : ℕ → ℕ → Type 0} {m m' : List (List ℕ)} → b ≡ n → Made w b R m m' → Made w n R m m'
made_whole {w} {b} {n} {R} {m} {m'} e = subst (λ (k : ℕ). Made w k R m m') e

-- one of the rows made anew
pub made_again :
    {w h : ℕ} {R S : ℕ → ℕ → Type 0} {m₀ m m' : List (List ℕ)} (l : ℕ) → l < h → ((a b : ℕ) → ¬ (b ≡ l) → R a b → S a b)
    → ((a b : ℕ) → ¬ (b ≡ l) → S a b → R a b) → Made w h R m₀ m → MadeRow w l (λ a. S a l) m m' → Made w h S m₀ m'
made_again {w} {h} {R} {S} {m₀} {m} {m'} l low f g k r =
    record {
      rest = outside_trans k.rest (outside_wider (omega arith) (omega arith) r.rest);
      holds = record { all = λ a b i. all a b i (ℕ_discrete b l); only = λ a b i. only a b i (ℕ_discrete b l) };
    }
  where
    all : (a b : ℕ) → b < h → Dec (b ≡ l) → S a b → On w m' a b
    all a b i (yes e) s = subst (On w m' a) (sym e) (r.all a (subst (S a) e s))
    all a b i (no n) s = on_kept l r.rest n (k.holds.all a b i (g a b n s))

    only : (a b : ℕ) → b < h → Dec (b ≡ l) → On w m' a b → S a b
    only a b i (yes e) o = subst (S a) (sym e) (r.only a (subst (On w m' a) e o))
    only a b i (no n) o = f a b n (k.holds.only a b i (on_was l r.rest n o))

-- the rows before one that is made
pub holds_beside : {w b : ℕ} {R : ℕ → ℕ → Type 0} {P : ℕ → Type 0} {m m' : List (List ℕ)} → Holds w b R m → MadeRow w b P m m' → Holds w b R m'
holds_beside {b = b} h r = record {
  all = λ a c l x. on_kept b r.rest (λ e. omega (arith, e, l)) (h.all a c l x);
  only = λ a c l o. h.only a c l (on_was b r.rest (λ e. omega (arith, e, l)) o);
}

pub holds_itself : (w n : ℕ) (m : List (List ℕ)) → Holds w n (On w m) m
holds_itself w n m = record { all = λ a b l o. o; only = λ a b l o. o }

-- rows that hold R already
pub made_held : {w n : ℕ} {R : ℕ → ℕ → Type 0} {m : List (List ℕ)} → Holds w n R m → Made w n R m m
made_held h = record { rest = outside_none; holds = h }

-- all of them made once more
pub made_trans : {w n : ℕ} {R S : ℕ → ℕ → Type 0} {m m' m'' : List (List ℕ)} → Made w n R m m' → Made w n S m' m'' → Made w n S m m''
made_trans p q = record { rest = outside_trans p.rest q.rest; holds = q.holds }

pub holds_iff :
    {w n : ℕ} {R S : ℕ → ℕ → Type 0} {m : List (List ℕ)} → ((a b : ℕ) → b < n → R a b → S a b) → ((a b : ℕ) → b < n → S a b → R a b) → Holds w n R m → Holds w n S m
holds_iff f g h = record { all = λ a b l s. h.all a b l (g a b l s); only = λ a b l o. f a b l (h.only a b l o) }

pub made_iff :
    {w n : ℕ} {R S : ℕ → ℕ → Type 0} {m m' : List (List ℕ)} → ((a b : ℕ) → b < n → R a b → S a b) → ((a b : ℕ) → b < n → S a b → R a b)
    → Made w n R m m' → Made w n S m m'
made_iff f g p = record { rest = p.rest; holds = holds_iff f g p.holds }

-- empty rows hold what never is
pub made_never : {w n : ℕ} {R : ℕ → ℕ → Type 0} {m : List (List ℕ)} → ((a b : ℕ) → ¬ R a b) → Holds w n (λ _ _. ⊥) m → Made w n R m m
made_never never h = made_held (holds_iff (λ a b _ x. absurd x) (λ a b _ r. never a b r) h)

-- words that are all 0 hold nothing
pub holds_zeros : (w n k v : ℕ) → Holds w n (λ _ _. ⊥) (replicate k (replicate v 0))
holds_zeros w n k v = record {
  all = λ a b l x. absurd x;
  only = λ a b l o. never_in_zero (a % 64) (sym (ap (λ (z : ℕ). digit z (a % 64)) (no_word k b (a / 64))) ∙ o.is1);
}
  where
    no_word : (k b i : ℕ) → ◌≡◌ {A = ℕ} (get_or (get_or (replicate k (replicate v 0)) b []) i 0) 0
    no_word zero b i = refl
    no_word (suc k) zero i = zeros v i
    no_word (suc k) (suc b) i = no_word k b i

-- where the length is kept, the room is
pub room_kept : {w n h : ℕ} {m m' : List (List ℕ)} → length m' ≡ length m → Room w n h m → Room w n h m'
room_kept e r = record { width = r.width; wide = r.wide; room = omega (arith, r.room, e) }

-- a matrix of which rows were made has room as before
pub made_row_room : {w n h b : ℕ} {P : ℕ → Type 0} {m m' : List (List ℕ)} → Room w n h m → MadeRow w b P m m' → Room w n h m'
made_row_room r p = room_kept p.rest.size r

pub made_room : {w n h k : ℕ} {R : ℕ → ℕ → Type 0} {m m' : List (List ℕ)} → Room w n h m → Made w k R m m' → Room w n h m'
made_room r p = room_kept p.rest.size r

-- and holds what it was made to
pub made_given : {w n : ℕ} {R : ℕ → ℕ → Type 0} {m m' : List (List ℕ)} → Room w n n m → Made w n R m m' → Given w n R m'
made_given r p = record { has = made_room r p; holds = p.holds }

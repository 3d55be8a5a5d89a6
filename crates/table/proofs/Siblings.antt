-- What a search among a record's siblings finds, from the youngest on, is what a search among all earlier records finds.
use Rattle.std.specs.Prelude.{Some}
use mathlib.Core.Path.{◌≡◌, refl, sym, subst, ap, ◌∙◌}
use mathlib.Core.Bool.{Bool, true, false, ◌||◌}
use mathlib.Core.List.{List}
use Prim.Native.Nat.{ℕ, zero, suc, ◌+◌, ◌%◌, ◌<◌, ◌≤◌}
use native.Mathlib.Omega.{arith}
use lib.ListN.{get_or}
use Rattle.laws.specs.Says.{Says, any_below}
use Rattle.laws.proofs.Says.{says_yes, says_no, says_one}
use Rattle.events.specs.declared.Record.{Record}
use Rattle.record.specs.Form.{pick}
use Rattle.table.specs.Computed.{same_link, twinned, twin_fault}
use Rattle.table.specs.Events.{events_of}
use Rattle.table.specs.Siblings.{twinned_sibling, last_child, Family}
use Rattle.table.proofs.Telling.{says_link}

or_no : {a b x : Bool} → a ≡ x → b ≡ false → (a || b) ≡ x
or_no {a = true} e h = e
or_no {a = false} e h = h ∙ e

-- ---- a new record with the parent p

module _ (at : ℕ → Record) (p : ℕ) (new : Record) (child : new.parent ≡ Some p) where
  no_sibling : (m : ℕ) → ¬ ((at m).parent ≡ Some p) → twinned (at m) new ≡ false
  no_sibling m other = rw (says_one (says_link (at m).parent new.parent) (says_no (λ e. other (e ∙ child))))

  sibling : (m : ℕ) → (at m).parent ≡ Some p → twinned (at m) new ≡ twinned_sibling (at m) new
  sibling m same = rw (says_one (says_link (at m).parent new.parent) (says_yes (same ∙ sym child)))

  -- what the last child c before number k tells of a search below k
  data Last (k c : ℕ) : Type 0 where
    no_child : c ≡ 255 → twin_fault at k new ≡ false → Last k c
    a_child : c < k → (at c).parent ≡ Some p → twin_fault at k new ≡ (twin_fault at c new || twinned (at c) new) → Last k c

  last_child_lem : (k : ℕ) → Last k (last_child at p k)
  unfolding last_child any_below
  last_child_lem zero = no_child refl refl
  last_child_lem (suc k) = go (same_link (at k).parent (Some p)) (says_link (at k).parent (Some p)) (last_child_lem k)
    where
      go : (b : Bool) → Says b ((at k).parent ≡ Some p) → Last k (last_child at p k) → Last (suc k) (pick b k (last_child at p k))
      go true s before = a_child (omega arith) (s.to tt) refl
      go false s (no_child e none) = no_child e (or_no none (no_sibling k (λ x. s.from x)))
      go false s (a_child h is same) = a_child (omega arith) is (or_no same (no_sibling k (λ x. s.from x)))

-- ---- along the chain

module _ (b : List ℕ) (older : List ℕ) (new : Record) where
  abbrev found_below : ℕ → Bool
  found_below n = twin_fault (events_of b).at n new

  -- s is the youngest of the siblings before number n, and the others are before it
  pub record Next (n s : ℕ) : Type 0 where
    pub earlier : s < n
    pub rest : Family b s older (get_or older s 0) new
    pub same : found_below n ≡ (found_below s || twinned_sibling ((events_of b).at s) new)
    pub falls : (get_or older s 0 + 1) % 256 < (s + 1) % 256

  last_of : {n s : ℕ} (f : Family b n older s new) → Last (events_of b).at f.parent new f.child n s
  last_of {n} f = subst (Last (events_of b).at f.parent new f.child n) (sym f.chain.last) (last_child_lem (events_of b).at f.parent new f.child n)

  pub family_done : {n s : ℕ} → Family b n older s new → s ≡ 255 → found_below n ≡ false
  family_done {n} {s} f e = elim (last_of f) [
    | no_child _ none ↦ none
    | a_child h _ _ ↦ absurd (omega (arith, f.reach, f.small))
  ]

  pub family_next : {n s : ℕ} → Family b n older s new → ¬ (s ≡ 255) → Next n s
  family_next {n} {s} f some = elim (last_of f) [
    | no_child e _ ↦ absurd (some e)
    | a_child h is same ↦ next h is same
  ]
    where
      rest : s < n → ((events_of b).at s).parent ≡ Some f.parent → Family b s older (get_or older s 0) new
      rest h is = record {
        stand = record { held = omega (arith, f.stand.held); decodes = λ m l. f.stand.decodes m (omega arith) };
        reach = omega (arith, f.reach);
        small = f.small;
        parent = f.parent;
        child = f.child;
        chain = record { last = f.chain.before s h is; before = λ m l e. f.chain.before m (omega arith) e };
      }

      falls : s < n → Family b s older (get_or older s 0) new → (get_or older s 0 + 1) % 256 < (s + 1) % 256
      falls h g = elim (last_of g) [
        | no_child e _ ↦ omega (arith, f.reach, f.small)
        | a_child l _ _ ↦ omega (arith, f.reach, f.small)
      ]

      next : s < n → ((events_of b).at s).parent ≡ Some f.parent → found_below n ≡ (found_below s || twinned ((events_of b).at s) new) → Next n s
      next h is same = record {
        earlier = h;
        rest = rest h is;
        same = same ∙ ap (λ (x : Bool). found_below s || x) (sibling (events_of b).at f.parent new f.child s is);
        falls = falls h (rest h is);
      }

  -- so far `found`, and the siblings from s on are yet to be asked
  pub record Left (n : ℕ) (found : Bool) (s : ℕ) : Type 0 where
    pub bound : ℕ
    pub within : bound ≤ n
    pub family : Family b bound older s new
    pub whole : (found || found_below bound) ≡ found_below n

  pub left_all : {n s : ℕ} → Family b n older s new → Left n false s
  left_all {n} f = record { bound = n; within = omega arith; family = f; whole = refl }

  pub left_none : {n s : ℕ} {found : Bool} → Left n found s → s ≡ 255 → found ≡ found_below n
  left_none l e = sym (or_no refl (family_done l.family e)) ∙ l.whole

  pub left_next : {n s : ℕ} {found hit : Bool} → Left n found s → ¬ (s ≡ 255) → hit ≡ twinned_sibling ((events_of b).at s) new → Left n (found || hit) (get_or older s 0)
  left_next {n} {s} {found} {hit} l some is =
      let next = family_next l.family some in
      record {
        bound = s;
        within = omega (arith, l.within, next.earlier);
        family = next.rest;
        whole = turned found hit (found_below s) next.same is ∙ l.whole;
      }
    where
      turned : (a h t : Bool) {u v : Bool} → u ≡ (t || v) → h ≡ v → ((a || h) || t) ≡ (a || u)
      turned true h t e is = refl
      turned false true true e is = sym e
      turned false true false e is = is ∙ sym e
      turned false false true e is = sym e
      turned false false false e is = is ∙ sym e

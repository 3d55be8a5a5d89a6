-- How the columns go on to be kept when a record more stands.
use Rattle.std.specs.Prelude.{None, Some}
use mathlib.Core.Path.{◌≡◌, sym, subst, ap, ◌∙◌}
use mathlib.Core.Bool.{Bool, true, ◌&&◌}
use mathlib.Core.List.{List, [], ◌∷◌}
use Prim.Native.Nat.{ℕ, zero, suc, ◌+◌, ◌<◌, ◌≤◌}
use native.Mathlib.Omega.{arith}
use native.Mathlib.Numerals.{add-one}
use native.Mathlib.Decide.{ℕ_discrete}
use lib.Dec.{T, eqb, ltb}
use lib.ListN.{length, get_or, set, length-set}
use lib.Seq.{get_or-set_same, get_or-set_other}
use borrow.Author.Count.{below_more}
use Rattle.laws.specs.Says.{Says}
use Rattle.laws.proofs.Says.{says_yes, says_no, says_one, says_T, says_eq, says_lt, says_and, says_iff}
use Rattle.events.specs.declared.Record.{Record}
use Rattle.model.proofs.Fields.{absent_to, one_end}
use Rattle.table.specs.Events.{events_of}
use Rattle.table.specs.Siblings.{last_child, Kept}
use Rattle.table.specs.Standing.{Stands, AllStand}
use Rattle.table.specs.Test.{Decodes}
use Rattle.table.proofs.Telling.{says_link}

-- what the code asks of the columns before it uses them
pub record Placed (last older : List ℕ) (p n : ℕ) : Type 0 where
  pub place : p < length last
  pub room : n < length older

pub says_placed :
    (last older : List ℕ) (p n : ℕ) → Says (ltb p (length last) && ltb n (length older)) (Placed last older p n)
says_placed last older p n =
    says_iff (λ (h, l). record { place = h; room = l }) (λ x. (x.place, x.room)) (says_and (says_lt p (length last)) (says_lt n (length older)))

-- ---- the last child, one number on

module _ (at : ℕ → Record) (p n : ℕ) where
  last_this : (at n).parent ≡ Some p → last_child at p (n + 1) ≡ n
  unfolding last_child
  last_this e = rw (add-one n, says_one (says_link (at n).parent (Some p)) (says_yes e))

  last_other : ¬ ((at n).parent ≡ Some p) → last_child at p (n + 1) ≡ last_child at p n
  unfolding last_child
  last_other e = rw (add-one n, says_one (says_link (at n).parent (Some p)) (says_no e))

-- ---- the columns of b, one record on

module _ {b : List ℕ} {n : ℕ} {last older : List ℕ} (here : Stands b n) (kept : Kept b n last older) where
  abbrev at : ℕ → Record
  at = (events_of b).at

  stand_more : AllStand b (n + 1)
  stand_more = record { held = omega (arith, here.held); decodes = below_more (Decodes b) n kept.stand.decodes here.decodes }

  -- record n is a child of no record that the columns are used for
  kept_other : ((q : ℕ) → Placed last older q n → ¬ ((at n).parent ≡ Some q)) → Kept b (n + 1) last older
  kept_other other = record {
    stand = stand_more;
    small = kept.small;
    chains = λ r q h.
        let placed : Placed last older q n = record { place = h; room = omega arith } in
        let before = kept.chains (omega arith) q h in
        record {
          last = before.last ∙ sym (last_other at q n (other q placed));
          before = below_more (λ m. (at m).parent ≡ Some q → get_or older m 0 ≡ last_child at q m) n before.before (λ e. absurd (other q placed e));
        };
  }

  pub kept_root : (at n).parent ≡ None → Kept b (n + 1) last older
  kept_root none = kept_other (λ q placed e. absent_to none e)

  pub kept_unplaced : (p : ℕ) → (at n).parent ≡ Some p → ¬ Placed last older p n → Kept b (n + 1) last older
  kept_unplaced p is not_placed = kept_other (λ q placed e. not_placed (subst (λ (k : ℕ). Placed last older k n) (one_end is e) placed))

  -- or it is the last child of p
  module _ (p : ℕ) (is : (at n).parent ≡ Some p) (placed : Placed last older p n) where
    abbrev newer : List ℕ
    newer = set older n (get_or last p 0)

    last_now : (q : ℕ) → q < length last → Dec (q ≡ p) → get_or (set last p n) q 0 ≡ last_child at q (n + 1)
    last_now q h (yes e) = subst (λ (k : ℕ). get_or (set last p n) k 0 ≡ last_child at k (n + 1)) (sym e) (get_or-set_same last p n 0 placed.place ∙ sym (last_this at p n is))
    last_now q h (no e) =
        get_or-set_other last p q n 0 e
        ∙ ((kept.chains (omega (arith, placed.room)) q h).last ∙ sym (last_other at q n (λ f. e (one_end is f))))

    before_now : (q : ℕ) → q < length last → (m : ℕ) → m < n → (at m).parent ≡ Some q → get_or newer m 0 ≡ last_child at q m
    before_now q h m l e = get_or-set_other older n m (get_or last p 0) 0 (λ s. absurd (omega arith)) ∙ (kept.chains (omega (arith, placed.room)) q h).before m l e

    before_this : (q : ℕ) → (at n).parent ≡ Some q → get_or newer n 0 ≡ last_child at q n
    before_this q e =
        get_or-set_same older n (get_or last p 0) 0 placed.room
        ∙ ((kept.chains (omega (arith, placed.room)) p placed.place).last ∙ ap (λ (k : ℕ). last_child at k n) (one_end e is))

    pub kept_child : Kept b (n + 1) (set last p n) newer
    kept_child = record {
      stand = stand_more;
      small = rw (length-set older n (get_or last p 0)) kept.small;
      chains = λ r q h.
          let inside : q < length last = omega (arith, length-set last p n) in
          record {
            last = last_now q inside (ℕ_discrete q p);
            before = below_more (λ m. (at m).parent ≡ Some q → get_or newer m 0 ≡ last_child at q m) n (before_now q inside) (before_this q);
          };
    }

-- no columns are kept of any table
pub kept_none : {b : List ℕ} {n : ℕ} → AllStand b n → Kept b n [] []
kept_none all = record { stand = all; small = omega arith; chains = λ r p h. absurd (omega arith) }

-- ---- the columns of no record

abbrev pub all_none : List ℕ → Bool
all_none [] = true
all_none (x ∷ l) = eqb x 255 && all_none l

none_there : (l : List ℕ) → T (all_none l) → (p : ℕ) → p < length l → get_or l p 0 ≡ 255
none_there [] all p h = absurd (omega arith)
none_there (x ∷ l) all zero h = ((says_and (says_eq x 255) (says_T (all_none l))).to all).0
none_there (x ∷ l) all (suc p) h = none_there l ((says_and (says_eq x 255) (says_T (all_none l))).to all).1 p (omega arith)

pub kept_first : (b last older : List ℕ) → length older ≤ 255 → T (all_none last) → Kept b 0 last older
unfolding last_child
kept_first b last older small none = record {
  stand = record { held = omega arith; decodes = λ m h. absurd (omega arith) };
  small = small;
  chains = λ r p h. record { last = none_there last none p h; before = λ m l. absurd (omega arith) };
}

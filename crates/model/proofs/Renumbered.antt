-- A renumbering of records of a well-formed table is well-formed, if parents and sources stay earlier.
use Rattle.std.specs.Prelude.{Option, None, Some}
use mathlib.Core.Path.{◌≡◌, refl, sym, ap, subst, ◌∙◌}
use Prim.Native.Nat.{ℕ, ◌<◌, ◌≤◌}
use native.Mathlib.Omega.{arith}
use native.Mathlib.Nat.{not-suc-le-zero}
use native.Mathlib.Decide.{ℕ_discrete}
use Rattle.laws.proofs.Closure.{tri}
use Rattle.model.specs.Table.{Table, inert, Inside, thread, Parent, Source, IsInit}
use Rattle.model.specs.Relations.{Po, AtOrAbove, equal, above}
use Rattle.model.specs.WellFormed.{WellFormed, Sound, Root, Refused6, no_root, no_parent, parent_not_earlier, other_thread, thread_stood}
use Rattle.model.specs.WellFormed.{Refused7, no_earlier_write, other_value, known_from_u, known_from_nothing, TwoReads, Refused8, twin}
use Rattle.model.specs.Cut.{link_by}
use Rattle.model.proofs.Facts.{location_sym, root}
use Rattle.model.proofs.Threads.{po_earlier, one_init, init_of}
use Rattle.model.proofs.Renumber.{Renumbering, pulled, pulled_is, related_pulled}
use Rattle.model.proofs.Links.{absent_back}

-- "each record's parent and source stand earlier"
pub record LinksEarlier (t : Table) : Type 0 where
  pub parent : (n p : ℕ) → Inside t n → Parent t p n → p < n
  pub source : (n s : ℕ) → Inside t n → Source t s n → s < n

-- two reads, in either order
two_reads_sym : (t : Table) {m n : ℕ} → TwoReads t m n → TwoReads t n m
two_reads_sym t {m} {n} h = record {
  read_m = h.read_n;
  read_n = h.read_m;
  one_location = location_sym t m n h.one_location;
  different = λ e. h.different (sym e);
}

module _ (t' t : Table) (f : ℕ → ℕ) (N : Renumbering t' t f) (W : WellFormed t) (some : 0 < t'.count) (L : LinksEarlier (pulled t' t f)) where
  open N use {injective, inside, carried}
  open related_pulled t' t f N use {same_po, parent_along, source_along, no_source_back}

  abbrev p : Table
  p = pulled t' t f

  sound : (n : ℕ) → Inside p n → Sound t (f n)
  sound n i = W.sound (f n) ((inside n).0 i)

  parent_is : (n : ℕ) → (t.at (f n)).parent ≡ link_by f (t'.at n).parent
  parent_is n = ap (λ r. r.parent) (carried n)

  first_no_parent : (t'.at 0).parent ≡ None
  first_no_parent = go (t'.at 0).parent refl
    where
      go : (l : Option ℕ) → (t'.at 0).parent ≡ l → (t'.at 0).parent ≡ None
      go None e = e
      go (Some q) e = absurd (not-suc-le-zero (L.parent 0 q some e))

  first_is_first : f 0 ≡ 0
  first_is_first = go (ℕ_discrete (f 0) 0)
    where
      go : Dec (f 0 ≡ 0) → f 0 ≡ 0
      go (yes e) = e
      go (no z) = absurd ((sound 0 some).not_6 (no_parent z (parent_is 0 ∙ ap (link_by f) first_no_parent)))

  not_first : {n : ℕ} → ¬ (n ≡ 0) → ¬ (f n ≡ 0)
  not_first {n} z e = z (injective n 0 (e ∙ sym first_is_first))

  root_0 : Root p 0
  root_0 = record {
    init = subst (IsInit t) (sym first_is_first) (root W).init;
    thread_0 = ap (thread t) first_is_first ∙ (root W).thread_0;
    no_parent = first_no_parent;
  }

  -- the Init of m's thread, wherever it stands in t, stands in t' above m, and so before it
  init_first : {m n : ℕ} → Inside p n → IsInit p n → m < n → ¬ (thread p m ≡ thread p n)
  init_first {m} {n} i x l e =
      let j : Inside p m = omega arith in
      let c = init_of W (f m) ((inside m).0 j) in
      on (subst (λ (y : ℕ). AtOrAbove t y (f m)) (one_init W c.inside ((inside n).0 i) c.init x (c.one_thread ∙ e)) c.at_or_above) refl
    where
      on : {y : ℕ} → AtOrAbove t (f n) y → y ≡ f m → ⊥
      on (equal k) q = let z = injective n m q in omega arith
      on (above o) q =
          let k = po_earlier p L.parent (omega arith) ((same_po n m).1 (subst (Po t (f n)) q o)) in
          omega arith

  not_6 : (n : ℕ) → Inside p n → ¬ Refused6 p n
  not_6 n i (no_root z h) = h (subst (Root p) (sym z) root_0)
  not_6 n i (no_parent z e) = (sound n i).not_6 (no_parent (not_first z) (parent_is n ∙ ap (link_by f) e))
  not_6 n i (parent_not_earlier {p = q} z e l) = let k = L.parent n q i e in omega arith
  not_6 n i (other_thread {p = q} z h e d) = (sound n i).not_6 (other_thread (not_first z) h (parent_along q n e) d)
  not_6 n i (thread_stood x l e) = init_first i x l e

  not_7 : (n : ℕ) → Inside p n → ¬ Refused7 p n
  not_7 n i (no_earlier_write {s = s} e h) =
      (sound n i).not_7 (no_earlier_write (source_along s n e) (λ w. h (record { earlier = L.source n s i e; write = w.write; one_location = w.one_location })))
  not_7 n i (other_value {s = s} e w v d) = (sound n i).not_7 (other_value (source_along s n e) w v d)
  not_7 n i (known_from_u {s = s} e w v) = (sound n i).not_7 (known_from_u (source_along s n e) w v)
  not_7 n i (known_from_nothing e v) =
      (sound n i).not_7 (known_from_nothing (ap (λ r. r.source) (carried n) ∙ ap (link_by f) e) v)

  two_reads_back : {m n : ℕ} → TwoReads t (f m) (f n) → TwoReads p m n
  two_reads_back h =
      record { read_m = h.read_m; read_n = h.read_n; one_location = h.one_location; different = h.different }

  not_8 : (n : ℕ) → Inside p n → ¬ Refused8 p n
  not_8 n i (twin {m = m} l e θ h) =
      let e' : (t.at (f m)).parent ≡ (t.at (f n)).parent = parent_is m ∙ ap (link_by f) e ∙ sym (parent_is n) in
      tri (f m) (f n)
      (λ k. (sound n i).not_8 (twin k e' θ (λ w. h (two_reads_back w))))
      (λ k. let z = injective m n k in omega arith)
      (λ k. (sound m (omega arith)).not_8 (twin k (sym e') (sym θ) (λ w. h (two_reads_back (two_reads_sym t w)))))

  ends : (n : ℕ) → t'.count ≤ n → p.at n ≡ inert
  ends n h =
      let outside : ¬ Inside t (f n) = λ k. (let j = (inside n).1 k in omega arith) in
      let e = W.ends.past (f n) (omega arith) in
      λ j. record {
        thread = (e j).thread;
        parent = absent_back f (t'.at n).parent (sym (parent_is n) ∙ ap (λ r. r.parent) e) j;
        source = no_source_back n (ap (λ r. r.source) e) j;
        event = (e j).event;
      }

  well_formed_pulled : WellFormed p
  well_formed_pulled = record {
    some_record = some;
    sound = λ n i. record {
      not_6 = not_6 n i;
      not_7 = not_7 n i;
      not_8 = not_8 n i;
      only_reads = λ h. no_source_back n ((sound n i).only_reads h);
    };
    ends = record { past = ends };
  }

pub well_formed_renumbered :
    (t' t : Table) (f : ℕ → ℕ) → Renumbering t' t f → WellFormed t → 0 < t'.count → LinksEarlier t' → WellFormed t'
well_formed_renumbered t' t f N W some =
    subst (λ (s : Table). LinksEarlier s → WellFormed s) (pulled_is t' t f N) (well_formed_pulled t' t f N W some)

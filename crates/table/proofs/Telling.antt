-- The tests 6 to 8 on events tell refusals 6 to 8 of the model.
use Rattle.std.specs.Prelude.{Option, None, Some}
use mathlib.Core.Path.{◌≡◌, refl, sym, subst, ap, ◌∙◌}
use mathlib.Core.Bool.{Bool, true, false, not}
use Prim.Native.Nat.{ℕ, ◌<◌, ◌≤◌}
use native.Mathlib.Omega.{arith}
use lib.Dec.{T, eqb, eqb→eq}
use Rattle.laws.specs.Says.{Says}
use Rattle.laws.proofs.Says.{says_yes, says_no, says_T, says_eq, says_lt, says_not, says_and, says_iff, says_dec, says_any_below}
use Rattle.events.specs.declared.Value.{Value}
use Rattle.events.specs.declared.Value.TheVariants.{U, Known}
use Rattle.events.specs.declared.Event.{Event}
use Rattle.events.specs.declared.Event.TheVariants.{Init, Load, Store, Update}
use Rattle.events.specs.declared.Record.{Record}
use Rattle.events.specs.Words.{is_init, is_read, is_write, location_of, read_of, written_of}
use Rattle.record.specs.Form.{pick}
use Rattle.model.specs.Table.{Table, IsInit, Read, Source, NoSource, thread}
use Rattle.model.specs.WellFormed.{Root, Refused6, no_root, no_parent, parent_not_earlier, other_thread, thread_stood, EarlierWrite, Refused7, no_earlier_write, other_value, known_from_u, known_from_nothing, TwoReads, Refused8, twin}
use Rattle.model.proofs.Fields.{absent_to, one_end}
use Rattle.table.specs.Computed.{same_link, read_by, written_by, is_u, same_value, agrees, suits, branches, rooted, stood, misplaced, misplaced_by, parent_fault, unfit, unfit_by, source_fault, twinned, twin_fault}

-- a test in two arms, each asked only where it counts
says_pick :
    {c a b : Bool} {C P : Type 0} → Says c C → (C → Says a P) → (¬ C → Says b P) → Says (pick c a b) P
says_pick {c = true} s f g = f (s.to tt)
says_pick {c = false} s f g = g (λ x. s.from x)

-- ---- links and values

some_same : {v w : Value} → Some v ≡ Some w → v ≡ w
some_same e = cc

known_not_u : {n : ℕ} → ¬ (Known n ≡ U)
known_not_u e =
    let z : ◌≡◌ {A = ℕ} 0 1 = cc in
    omega arith

pub says_link : (l m : Option ℕ) → Says (same_link l m) (l ≡ m)
says_link None None = says_yes refl
says_link None (Some q) = says_no (λ e. absent_to refl e)
says_link (Some p) None = says_no (λ e. absent_to e refl)
says_link (Some p) (Some q) = says_iff (λ e. ap Some e) (λ e. one_end e refl) (says_eq p q)

says_value : (v w : Value) → Says (same_value v w) (v ≡ w)
says_value U U = says_yes refl
says_value U (Known n) = says_no (λ e. known_not_u (sym e))
says_value (Known m) U = says_no known_not_u
says_value (Known m) (Known n) = says_iff (λ e. ap Known e) (λ e. cc) (says_eq m n)

-- ---- what an event reads, and what it writes

data ReadAs (e : Event) : Option (ℕ × Value) → Type 0 where
  no_read : ¬ T (is_read e) → ReadAs e None
  a_read : {x : ℕ} {v : Value} → T (is_read e) → location_of e ≡ Some x → read_of e ≡ Some v → ReadAs e (Some (x, v))

read_as : (e : Event) → ReadAs e (read_by e)
read_as Init = no_read (λ x. x)
read_as (Load o x v) = a_read tt refl refl
read_as (Store o x w) = no_read (λ x. x)
read_as (Update o x v w) = a_read tt refl refl

data WrittenAs (e : Event) : Option (ℕ × Value) → Type 0 where
  no_write : ¬ T (is_write e) → WrittenAs e None
  a_write : {x : ℕ} {w : Value} → T (is_write e) → location_of e ≡ Some x → written_of e ≡ Some w → WrittenAs e (Some (x, w))

written_as : (e : Event) → WrittenAs e (written_by e)
written_as Init = no_write (λ x. x)
written_as (Load o x v) = no_write (λ x. x)
written_as (Store o x w) = a_write tt refl refl
written_as (Update o x v w) = a_write tt refl refl

nothing_read : {A : Type 0} {v : Value} → None ≡ Some v → A
nothing_read e = absurd (let z : ◌≡◌ {A = ℕ} 0 1 = cc in omega arith)

reads_some : (e : Event) {v : Value} → read_of e ≡ Some v → T (is_read e)
reads_some Init h = nothing_read h
reads_some (Load o x v) h = tt
reads_some (Store o x w) h = nothing_read h
reads_some (Update o x v w) h = tt

-- the records before number n are those of t
module _ (t : Table) (n : ℕ) (at : ℕ → Record) (alike : (m : ℕ) → m < n → at m ≡ t.at m) where
  -- ---- 6

  says_thread : (m : ℕ) → m < n → (k : ℕ) → Says (eqb (at m).thread k) ((t.at m).thread ≡ k)
  says_thread m h k = rw (alike m h) (says_eq (t.at m).thread k)

  says_root : Says (rooted (t.at n)) (Root t n)
  says_root =
      says_iff (λ (i, (h, l)). record { init = i; thread_0 = h; no_parent = l }) (λ x. (x.init, (x.thread_0, x.no_parent)))
      (says_and (says_T (is_init (t.at n).event)) (says_and (says_eq (t.at n).thread 0) (says_link (t.at n).parent None)))

  first_6 : n ≡ 0 → Says (not (rooted (t.at n))) (Refused6 t n)
  first_6 z =
      says_iff (λ x. no_root z x)
      (λ x. elim x [
        | no_root _ y ↦ y
        | no_parent later _ ↦ absurd (later z)
        | parent_not_earlier later _ _ ↦ absurd (later z)
        | other_thread later _ _ _ ↦ absurd (later z)
        | thread_stood _ l _ ↦ absurd (omega arith)
      ])
      (says_not says_root)

  module _ (later : ¬ (n ≡ 0)) {p : ℕ} (e : (t.at n).parent ≡ Some p) where
    init_6 : p < n → IsInit t n → Says (stood at n (t.at n).thread) (Refused6 t n)
    init_6 h i =
        says_iff (λ (m, (l, same)). thread_stood i l same)
        (λ x. elim x [
          | no_root z _ ↦ absurd (later z)
          | no_parent _ a ↦ absurd (absent_to a e)
          | parent_not_earlier _ f k ↦ absurd (let same = one_end e f in omega arith)
          | other_thread _ other _ _ ↦ absurd (other i)
          | thread_stood {m} _ l same ↦ (m, (l, same))
        ])
        (says_any_below (λ m l. says_thread m l (t.at n).thread))

    other_6 : p < n → ¬ IsInit t n → Says (not (eqb (at p).thread (t.at n).thread)) (Refused6 t n)
    other_6 h other =
        says_iff (λ d. other_thread later other e (λ same. d (sym same)))
        (λ x. elim x [
          | no_root z _ ↦ absurd (later z)
          | no_parent _ a ↦ absurd (absent_to a e)
          | parent_not_earlier _ f k ↦ absurd (let same = one_end e f in omega arith)
          | other_thread _ _ f d ↦ λ same. d (sym same ∙ ap (thread t) (one_end f e))
          | thread_stood i _ _ ↦ absurd (other i)
        ])
        (says_not (says_thread p h (t.at n).thread))

    parent_6 : Says (misplaced at n p (t.at n)) (Refused6 t n)
    parent_6 =
        says_pick (says_lt p n) (λ h. says_pick (says_T (is_init (t.at n).event)) (init_6 h) (other_6 h))
        (λ late. let past : n ≤ p = omega arith in says_yes (parent_not_earlier later e past))

  pub says_6 : Says (parent_fault at n (t.at n)) (Refused6 t n)
  unfolding parent_fault
  says_6 = says_pick (says_eq n 0) first_6 (λ later. go later (t.at n).parent refl)
    where
      go : ¬ (n ≡ 0) → (l : Option ℕ) → (t.at n).parent ≡ l → Says (misplaced_by at n l (t.at n)) (Refused6 t n)
      go later None e = says_yes (no_parent later e)
      go later (Some p) e = parent_6 later e

  -- ---- 7

  module _ (reads : Read t n) {x : ℕ} (placed : location_of (t.at n).event ≡ Some x) where
    absent_7 : NoSource t n → (v : Value) → read_of (t.at n).event ≡ Some v → Says (not (is_u v)) (Refused7 t n)
    absent_7 absent (Known v) value = says_yes (known_from_nothing absent value)
    absent_7 absent U value = says_no (λ r. elim r [
      | no_earlier_write c _ ↦ absent_to absent c.is
      | other_value c _ _ _ ↦ absent_to absent c.is
      | known_from_u c _ _ ↦ absent_to absent c.is
      | known_from_nothing _ v ↦ known_not_u (some_same (sym v ∙ value))
    ])

    module _ {s : ℕ} (is : (t.at n).source ≡ Some s) where
      source : Source t s n
      source = record { reads = reads; is = is }

      clash :
          {y : ℕ} → location_of (t.at s).event ≡ Some y → Dec (y ≡ x) → (v w : Value) → read_of (t.at n).event ≡ Some v → written_of (t.at s).event ≡ Some w → ¬ ((y ≡ x) × T (agrees v w)) → Refused7 t n
      clash {y} there (no other) v w value wrote h =
          no_earlier_write source (λ e. other (eqb→eq y x (rw (there, placed) at e.one_location)))
      clash there (yes same) U w value wrote h = absurd (h (same, tt))
      clash there (yes same) (Known v) U value wrote h = known_from_u source wrote value
      clash there (yes same) (Known v) (Known w) value wrote h = other_value source wrote value (λ e. h (same, (says_eq w v).from e))

      wrote_at : {k : ℕ} {u w : Value} → written_of (t.at s).event ≡ Some w → Source t k n → written_of (t.at k).event ≡ Some u → w ≡ u
      wrote_at {u = u} wrote c a =
          some_same (sym wrote ∙ subst (λ (k : ℕ). written_of (t.at k).event ≡ Some u) (one_end is c.is) a)

      no_clash :
          {v w : Value} → EarlierWrite t s n → read_of (t.at n).event ≡ Some v → written_of (t.at s).event ≡ Some w → T (agrees v w) → ¬ Refused7 t n
      no_clash write value wrote agree r = elim r [
        | no_earlier_write c lacking ↦ subst (λ (k : ℕ). ¬ EarlierWrite t k n) (one_end is c.is) lacking write
        | other_value {w = a} {v = b} c p q d ↦ d (eqb→eq a b (rw (some_same (sym value ∙ q), wrote_at wrote c p) at agree))
        | known_from_u c p q ↦ (rw (some_same (sym value ∙ q), wrote_at wrote c p) at agree)
        | known_from_nothing absent _ ↦ absent_to absent is
      ]

      source_7 : (v : Value) → read_of (t.at n).event ≡ Some v → Says (unfit at n s x v) (Refused7 t n)
      source_7 v value =
          says_pick (says_lt s n) (λ h. rw (alike s h) (go h (written_as (t.at s).event)))
          (λ late. says_yes (no_earlier_write source (λ w. late w.earlier)))
        where
          go : s < n → {a : Option (ℕ × Value)} → WrittenAs (t.at s).event a → Says (not (suits a x v)) (Refused7 t n)
          go h (no_write never) = says_yes (no_earlier_write source (λ w. never w.write))
          go h (a_write {x = y} {w = w} writes there wrote) =
              says_iff (clash there (says_dec (says_eq y x)) v w value wrote)
              (λ r (same, agree).
              no_clash (record { earlier = h; write = writes; one_location = rw (there, placed) ((says_eq y x).from same) }) value wrote agree r)
              (says_not (says_and (says_eq y x) (says_T (agrees v w))))

  pub says_7 : Says (source_fault at n (t.at n)) (Refused7 t n)
  unfolding source_fault
  says_7 = go (read_as (t.at n).event) (t.at n).source refl
    where
      go : {a : Option (ℕ × Value)} → ReadAs (t.at n).event a → (l : Option ℕ) → (t.at n).source ≡ l → Says (unfit_by at n a l) (Refused7 t n)
      go (no_read never) l e = says_no (λ r. elim r [
        | no_earlier_write c _ ↦ never c.reads
        | other_value c _ _ _ ↦ never c.reads
        | known_from_u c _ _ ↦ never c.reads
        | known_from_nothing _ v ↦ never (reads_some (t.at n).event v)
      ])
      go (a_read {v = v} reads placed value) None e = absent_7 reads placed e v value
      go (a_read {v = v} reads placed value) (Some s) e = source_7 reads placed e v value

  -- ---- 8

  says_two_reads : (m : ℕ) → Says (branches (read_by (t.at m).event) (read_by (t.at n).event)) (TwoReads t m n)
  says_two_reads m = go (read_as (t.at m).event) (read_as (t.at n).event)
    where
      go : {a b : Option (ℕ × Value)} → ReadAs (t.at m).event a → ReadAs (t.at n).event b → Says (branches a b) (TwoReads t m n)
      go (no_read never) other = says_no (λ x. never x.read_m)
      go (a_read _ _ _) (no_read never) = says_no (λ x. never x.read_n)
      go (a_read {x = x} {v = v} reads placed value) (a_read {x = y} {v = w} reads' placed' value') =
          says_iff
          (λ (one, other).
          record {
            read_m = reads;
            read_n = reads';
            one_location = rw (placed, placed') ((says_eq x y).from one);
            different = λ same. other (some_same (sym value ∙ (same ∙ value')));
          })
          (λ z. (eqb→eq x y (rw (placed, placed') at z.one_location), λ same. z.different (value ∙ (ap Some same ∙ sym value'))))
          (says_and (says_eq x y) (says_not (says_value v w)))

  says_twinned :
      (m : ℕ) → m < n → Says (twinned (at m) (t.at n)) ((((t.at m).parent ≡ (t.at n).parent) × ((t.at m).thread ≡ (t.at n).thread)) × ¬ TwoReads t m n)
  says_twinned m h =
      rw (alike m h)
      (says_and (says_and (says_link (t.at m).parent (t.at n).parent) (says_eq (t.at m).thread (t.at n).thread)) (says_not (says_two_reads m)))

  pub says_8 : Says (twin_fault at n (t.at n)) (Refused8 t n)
  says_8 =
      says_iff (λ (m, (l, ((e, h), x))). twin l e h x) (λ x. elim x [ twin {m} l e h y ↦ (m, (l, ((e, h), y))) ])
      (says_any_below says_twinned)

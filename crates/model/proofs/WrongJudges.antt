-- "Errors that look reasonable": each wrong judge or wrong definition, with the theorem that shuts it out.
use Rattle.std.specs.Prelude.{Option, None, Some}
use mathlib.Core.Path.{◌≡◌, refl, sym, ap, ◌∙◌}
use mathlib.Core.Logic.{◌⊎◌, inl}
use mathlib.Core.Bool.{not}
use mathlib.Core.List.{[], ◌∷◌}
use Prim.Native.Nat.{ℕ, zero, suc, ◌<◌, ◌≤◌}
use native.Mathlib.Omega.{arith}
use lib.Dec.{T, ltb}
use Rattle.events.specs.declared.Order.TheVariants.{Na, Acq, Rel}
use Rattle.events.specs.declared.Value.TheVariants.{Known}
use Rattle.events.specs.declared.Event.{Event}
use Rattle.events.specs.declared.Event.TheVariants.{Init, Load, Store}
use Rattle.events.specs.declared.Record.{Record}
use Rattle.laws.specs.Says.{any_below}
use Rattle.laws.specs.Steps.{Plus, one, more}
use Rattle.laws.specs.Witness.{a_pair, pair_with}
use Rattle.laws.proofs.Says.{says_lt, says_not}
use Rattle.findings.specs.declared.Finding.TheVariants.{R, A1, W}
use Rattle.findings.specs.declared.Verdict.TheVariants.{Consistent}
use Rattle.model.specs.Table.{Table, listed, Inside, thread, IsInit, Parent, Source, NoSource, Write, NA, OneLocation}
use Rattle.model.specs.Relations.{Apart, by_po, Hb, Race, Wb0, SomeWriteBefore}
use Rattle.model.specs.WellFormed.{WellFormed}
use Rattle.model.specs.Findings.{Report, Reports, Holds}
use Rattle.model.specs.Examples.{Example, Right, allowed, E1, E2, E8, E9}
use Rattle.model.proofs.Unique.{one_report}
use Rattle.model.proofs.Verdicts.{holds_by, holds_not}
use Rattle.model.proofs.Fields.{absent_to}
use Rattle.model.proofs.Facts.{thread_of_parent}
use Rattle.model.proofs.Within.{hb_rises}
use Rattle.model.proofs.MirrorRows.{look}
use Rattle.model.proofs.Refusals.{well_formed?}
use Rattle.model.proofs.Mirror.{hb_rows, race_rows}
use Rattle.model.proofs.MirrorTells.{hb_told, race_told}
use Rattle.model.proofs.MirrorReport.{mirrored}
use Rattle.model.proofs.Worked.{right, examples_right}

-- ---- judges that never say one thing

-- what is asked of a judge: the report of each well-formed table, and no other table taken
pub record Judges (j : Table → Option Report) : Type 0 where
  pub reports : (t : Table) → WellFormed t → (x : Report) × ((j t ≡ Some x) × Reports t x)
  pub refuses : (t : Table) → ¬ WellFormed t → j t ≡ None

E1_right : Right E1
E1_right = examples_right.0

E2_right : Right E2
E2_right = examples_right.1.0

E8_right : Right E8
E8_right = examples_right.1.1.1.1.1.1.1.0

E9_right : Right E9
E9_right = examples_right.1.1.1.1.1.1.1.1.0

-- "A judge that refuses all"
pub not_refusing_all : (j : Table → Option Report) → ((t : Table) → j t ≡ None) → ¬ Judges j
not_refusing_all j refuses ok =
    let (x, (e, y)) = ok.reports (listed E1.table) E1_right.well_formed in
    let f = refuses (listed E1.table) in
    let z : ◌≡◌ {A = ℕ} 0 1 = cc in
    omega arith

-- "or says consistent to all"
pub not_consistent_to_all : (j : Table → Option Report) → ((t : Table) (x : Report) → j t ≡ Some x → x.verdict ≡ Consistent) → ¬ Judges j
not_consistent_to_all j says ok =
    let t = listed E2.table in
    let (x, (e, y)) = ok.reports t E2_right.well_formed in
    let same : x.verdict ≡ E2.report.verdict = ap (λ (r : Report). r.verdict) (one_report t x E2.report y E2_right.reports) in
    let f = says t x e in
    let z : ◌≡◌ {A = ℕ} 0 1 = cc in
    omega arith

-- ---- "Following happens-before to a fixed depth. A chain of 64 records must be followed to its end."

pub chain_followed : (t : Table) (n : ℕ) → ((m : ℕ) → m ≤ n → Parent t m (suc m)) → Hb t 0 (suc n)
chain_followed t zero step = one (by_po (one (step 0 (omega arith))))
chain_followed t (suc n) step =
    more (chain_followed t n (λ m h. step m (omega arith))) (by_po (one (step (suc n) (omega arith))))

-- ---- "Asking only that no write be one wb0 step before itself: never so, and E9 would pass."

pub never_one_step : (t : Table) (w : ℕ) → ¬ Wb0 t w w
never_one_step t w s = s.differ refl

pub E9_has_a_cycle : Holds (listed E9.table) A1
E9_has_a_cycle = holds_by A1 (E9_right.reports.least A1) refl

-- ---- "Testing a read against races with later writes: reads 5 and 6 of E8 would lose their justification."

-- the definition of justified, over another idea of the races that count
pub data JustifiedBy (Races : ℕ → Type 0) (t : Table) (r : ℕ) : Type 0 where
  with_source : {s : ℕ} → Source t s r → Hb t s r → ¬ Races r → JustifiedBy Races t r
  no_write_before : NoSource t r → ¬ SomeWriteBefore t r → JustifiedBy Races t r
  races : NoSource t r → Races r → JustifiedBy Races t r

-- races with earlier and later writes alike
abbrev pub SomeRace : Table → ℕ → Type 0
SomeRace t r = (w : ℕ) × (Write t w × Race t w r)

-- a read with a source that a write races with is not justified so
raced_read : (t : Table) {s : ℕ} (r : ℕ) → Source t s r → SomeRace t r → ¬ JustifiedBy (SomeRace t) t r
raced_read t r c w (with_source d h n) = n w
raced_read t r c w (no_write_before e n) = absent_to e c.is
raced_read t r c w (races e x) = absent_to e c.is

module _ {t : Table} (ok : WellFormed t) where
  -- by the mirror: a races with b
  raced : (a b : ℕ) → T (ltb a t.count) → T (ltb b t.count) → T (look (race_rows t) a b) → Race t a b
  raced a b h k r = ((race_told ok).each a b ((says_lt a t.count).to h) ((says_lt b t.count).to k)).to r

  -- by the mirror: a is not hb before the later b, and b never before a
  unordered : (a b : ℕ) → T (ltb a b) → T (ltb b t.count) → T (not (look (hb_rows t) a b)) → ¬ Hb t a b × ¬ Hb t b a
  unordered a b l h n =
      let x : a < b = (says_lt a b).to l in
      let y : b < t.count = (says_lt b t.count).to h in
      ((says_not ((hb_told ok).each a b (omega arith) y)).to n, λ back. omega (arith, hb_rises ok back))

-- reads 5 and 6 race with the later writes 9 and 7
abbrev E8_table : Table
E8_table = listed E8.table

pub E8_reads_lose : ¬ JustifiedBy (SomeRace E8_table) E8_table 5 × ¬ JustifiedBy (SomeRace E8_table) E8_table 6
unfolding any_below
E8_reads_lose =
    let ok = E8_right.well_formed in (
      raced_read E8_table 5 (record { reads = tt; is = refl }) (9, (tt, raced ok 9 5 tt tt tt)),
      raced_read E8_table 6 (record { reads = tt; is = refl }) (7, (tt, raced ok 7 6 tt tt tt)),
    )

-- and yet the definition finds every read of E8 justified
pub E8_reads_justified : ¬ Holds E8_table R
E8_reads_justified = holds_not R (E8_right.reports.least R) refl

-- ---- races without the last clause: "without it the two arms of one branch would race"

-- the definition of race, over another idea of conflict
pub record RaceBy (Cf : ℕ → ℕ → Type 0) (t : Table) (a b : ℕ) : Type 0 where
  pub differ : ¬ (a ≡ b)
  pub one_location : OneLocation t a b
  pub a_write : Write t a ⊎ Write t b
  pub a_NA : NA t a ⊎ NA t b
  pub not_before : ¬ Hb t a b
  pub not_after : ¬ Hb t b a
  pub no_conflict : ¬ Cf a b

-- where W is absent no two writes race
no_race : (t : Table) (a b : ℕ) → ¬ Holds t W → T (ltb a b) → Write t a → Write t b → ¬ Race t a b
no_race t a b no_W l p q r = no_W (record {
  witness = a_pair (record { first = a; second = b });
  shows = pair_with (record { in_order = (says_lt a b).to l; write_p = p; write_q = q; race = r });
})

pub E8_arms_do_not_race : ¬ Race E8_table 7 11
E8_arms_do_not_race = no_race E8_table 7 11 (holds_not W (E8_right.reports.least W) refl) tt tt tt

pub E8_arms_would_race : RaceBy (λ a b. ⊥) E8_table 7 11
unfolding any_below
E8_arms_would_race =
    let (p, q) = unordered E8_right.well_formed 7 11 tt tt tt in
    record { differ = λ e. omega arith; one_location = tt; a_write = inl tt; a_NA = inl tt; not_before = p; not_after = q; no_conflict = λ c. c }

-- ---- "Letting conflict stop at a thread's start, so that threads started on two arms seem compatible."

-- a climb that stops at a thread's start
pub record ParentInThread (t : Table) (p n : ℕ) : Type 0 where
  pub parent : Parent t p n
  pub no_start : ¬ IsInit t n

pub data AboveInThread (t : Table) (a : ℕ) : ℕ → Type 0 where
  equal : Inside t a → AboveInThread t a a
  above : {b : ℕ} → Plus (ParentInThread t) a b → AboveInThread t a b

-- the definition of conflict, by that climb
pub record ConflictInThread (t : Table) (a b : ℕ) : Type 0 where
  pub a' : ℕ
  pub b' : ℕ
  pub above_a : AboveInThread t a' a
  pub above_b : AboveInThread t b' b
  pub apart : Apart t a' b'

module _ {t : Table} (ok : WellFormed t) where
  one_thread_up : {a b : ℕ} → Plus (ParentInThread t) a b → thread t a ≡ thread t b
  one_thread_up {a} {b} (one s) = sym (thread_of_parent ok a b s.parent s.no_start)
  one_thread_up {a} {b} (more {m = m} u s) = one_thread_up u ∙ sym (thread_of_parent ok m b s.parent s.no_start)

  one_thread_above : {a b : ℕ} → AboveInThread t a b → thread t a ≡ thread t b
  one_thread_above (equal h) = refl
  one_thread_above (above u) = one_thread_up u

  -- it would never hold between two threads
  pub conflict_in_one_thread : {a b : ℕ} → ConflictInThread t a b → thread t a ≡ thread t b
  conflict_in_one_thread c = sym (one_thread_above c.above_a) ∙ (c.apart.one_thread ∙ one_thread_above c.above_b)

-- 0 Init; 1 store REL X=0 p0; 2 Init thread 1 p1; 3 store REL X=1 p2; then two arms: 4 load ACQ X 0 p1 s1; 5 load ACQ X 1 p1 s3;
-- a thread started on each: 6 Init thread 2 p4; 7 Init thread 3 p5; 8 store NA Y=1 p6; 9 store NA Y=2 p7: consistent.
abbrev pub line : ℕ → Option ℕ → Option ℕ → Event → Record
line thread parent source event = record { thread = thread; parent = parent; source = source; event = event }

abbrev pub arms : Example
arms = record {
  table =
      line 0 None None Init
      ∷ line 0 (Some 0) None (Store Rel 0 (Known 0))
      ∷ line 1 (Some 1) None Init
      ∷ line 1 (Some 2) None (Store Rel 0 (Known 1))
      ∷ line 0 (Some 1) (Some 1) (Load Acq 0 (Known 0))
      ∷ line 0 (Some 1) (Some 3) (Load Acq 0 (Known 1))
      ∷ line 2 (Some 4) None Init
      ∷ line 3 (Some 5) None Init
      ∷ line 2 (Some 6) None (Store Na 1 (Known 1))
      ∷ line 3 (Some 7) None (Store Na 1 (Known 2))
      ∷ [];
  report = allowed;
}

pub arms_right : Right arms
unfolding well_formed? mirrored any_below
arms_right = right arms tt refl refl

abbrev arms_table : Table
arms_table = listed arms.table

pub arms_do_not_race : ¬ Race arms_table 8 9
arms_do_not_race = no_race arms_table 8 9 (holds_not W (arms_right.reports.least W) refl) tt tt tt

-- and the table would be undefined
pub arms_would_race : RaceBy (ConflictInThread arms_table) arms_table 8 9
unfolding any_below
arms_would_race =
    let ok = arms_right.well_formed in
    let (p, q) = unordered ok 8 9 tt tt tt in
    record {
      differ = λ e. omega arith;
      one_location = tt;
      a_write = inl tt;
      a_NA = inl tt;
      not_before = p;
      not_after = q;
      no_conflict = λ c. omega (arith, conflict_in_one_thread ok c);
    }

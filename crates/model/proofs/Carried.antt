-- What a renumbering carries over: every relation of document 01, and the findings.
use mathlib.Core.Path.{◌≡◌, refl, sym, subst}
use mathlib.Core.List.{List, map}
use Prim.Native.Nat.{ℕ, ◌<◌}
use native.Mathlib.Omega.{arith}
use Rattle.findings.specs.declared.Finding.{Finding}
use Rattle.findings.specs.declared.Finding.TheVariants.{R, A1, A2, A3, A4, A5, W}
use Rattle.laws.specs.Witness.{Witness, a_record, a_pair, a_cycle, record_with, pair_with, cycle_with}
use Rattle.laws.proofs.Steps.{plus_map}
use Rattle.laws.proofs.Closure.{tri}
use Rattle.model.specs.Table.{Table, Read}
use Rattle.model.specs.Relations.{Conflict, Hb, WriteOrReader, the_write, a_reader, Wb0, Wb, Fr, PoDiff, HbscBy, at_one_location, by-po≠, by-po≠-hb-po≠, Hbsc}
use Rattle.model.specs.Relations.{ScStepBy, by_hbsc, by_wb, by_fr, ScStep, EarlierRace, SomeEarlierRace, WriteBefore, Justified, with_source, no_write_before, races_earlier, StandsOnRace}
use Rattle.model.specs.Findings.{ShowsR, ShowsA1, ShowsA2, ShowsA3, ShowsA4, ShowsA5, ShowsW, Shows, Holds}
use Rattle.laws.proofs.Renumbered.{cycle_map}
use Rattle.model.proofs.Laws.{conflict_sym, race_sym}
use Rattle.model.proofs.Renumber.{Renumbering, Along, Related, pulled, pulled_is, related_pulled}

-- R is carried over if a racing write that stands before a read in t' does so in t, and a read that stands on a race in t has a racing
-- write before it in t'
pub record RacesStay (t' t : Table) (f : ℕ → ℕ) : Type 0 where
  pub still_earlier : (w r : ℕ) → Read t' r → EarlierRace t' w r → f w < f r
  pub some_race : (r : ℕ) → StandsOnRace t (f r) → SomeEarlierRace t' r

pub record Keeps (t' t : Table) (f : ℕ → ℕ) : Type 0 where
  pub related : Related t' t f
  pub wb0 : Along f (Wb0 t') (Wb0 t)
  pub wb : Along f (Wb t') (Wb t)
  pub fr : Along f (Fr t') (Fr t)
  pub po≠ : Along f (PoDiff t') (PoDiff t)
  pub hbsc : Along f (Hbsc t') (Hbsc t)
  pub sc_step : Along f (ScStep t') (ScStep t)
  pub earlier_race_back : (w r : ℕ) → w < r → EarlierRace t (f w) (f r) → EarlierRace t' w r
  -- R alone depends on the order of the records, by the races earlier in the table
  pub finding : (x : Finding) → (x ≡ R → RacesStay t' t f) → Holds t' x → Holds t x

module _ (t' t : Table) (f : ℕ → ℕ) (N : Renumbering t' t f) where
  open N use {injective}
  open related_pulled t' t f N use {same_po, same_hb, same_conflict, same_race, source_along, source_back, no_source_back}

  abbrev p : Table
  p = pulled t' t f

  write_or_reader : (w a : ℕ) → WriteOrReader p w a → WriteOrReader t (f w) (f a)
  write_or_reader w a the_write = the_write
  write_or_reader w a (a_reader h) = a_reader (source_along w a h)

  wb0 : (a b : ℕ) → Wb0 p a b → Wb0 t (f a) (f b)
  wb0 a b h = record {
    write = h.write;
    write' = h.write';
    differ = λ e. h.differ (injective a b e);
    one_location = h.one_location;
    from = f h.from;
    to = f h.to;
    of_w = write_or_reader a h.from h.of_w;
    of_w' = write_or_reader b h.to h.of_w';
    before = (same_hb h.from h.to).0 h.before;
  }

  wb : (a b : ℕ) → Wb p a b → Wb t (f a) (f b)
  wb a b = plus_map f wb0

  fr : (a b : ℕ) → Fr p a b → Fr t (f a) (f b)
  fr a b h = record {
    s = f h.s;
    source = source_along h.s a h.source;
    before = wb h.s b h.before;
    differ = λ e. h.differ (injective a b e);
  }

  po≠ : (a b : ℕ) → PoDiff p a b → PoDiff t (f a) (f b)
  po≠ a b h = record { before = (same_po a b).0 h.before; not_one_location = h.not_one_location }

  hbsc_by : (a b : ℕ) → HbscBy p a b → HbscBy t (f a) (f b)
  hbsc_by a b (at_one_location h l) = at_one_location ((same_hb a b).0 h) l
  hbsc_by a b (by-po≠ h) = by-po≠ (po≠ a b h)
  hbsc_by a b (by-po≠-hb-po≠ h) = by-po≠-hb-po≠ (record {
    c = f h.c;
    d = f h.d;
    first = po≠ a h.c h.first;
    then = (same_hb h.c h.d).0 h.then;
    last = po≠ h.d b h.last;
  })

  hbsc : (a b : ℕ) → Hbsc p a b → Hbsc t (f a) (f b)
  hbsc a b h = record { sc_a = h.sc_a; sc_b = h.sc_b; by = hbsc_by a b h.by }

  sc_step_by : (a b : ℕ) → ScStepBy p a b → ScStepBy t (f a) (f b)
  sc_step_by a b (by_hbsc h) = by_hbsc (hbsc a b h)
  sc_step_by a b (by_wb h) = by_wb (wb a b h)
  sc_step_by a b (by_fr h) = by_fr (fr a b h)

  sc_step : (a b : ℕ) → ScStep p a b → ScStep t (f a) (f b)
  sc_step a b h = record { sc_a = h.sc_a; sc_b = h.sc_b; by = sc_step_by a b h.by }

  write_before : (w r : ℕ) → WriteBefore p w r → WriteBefore t (f w) (f r)
  write_before w r h = record { write = h.write; one_location = h.one_location; before = (same_hb w r).0 h.before }

  earlier_race : (w r : ℕ) → f w < f r → EarlierRace p w r → EarlierRace t (f w) (f r)
  earlier_race w r l h = record { earlier = l; write = h.write; race = (same_race w r).0 h.race }

  earlier_race_back : (w r : ℕ) → w < r → EarlierRace t (f w) (f r) → EarlierRace p w r
  earlier_race_back w r l h = record { earlier = l; write = h.write; race = (same_race w r).1 h.race }

  -- no excluded middle: that a read stands on a race need not be decided
  not_justified : RacesStay p t f → (r : ℕ) → Read p r → ¬ Justified p r → ¬ Justified t (f r)
  not_justified S r reads none (with_source {s = x} source before no_Race) =
      let k = source_back x r source in
      none
      (with_source k.step ((same_hb k.a r).1 (subst (λ (y : ℕ). Hb t y (f r)) (sym k.image) before))
      (λ z. no_Race (f z.0, earlier_race z.0 r (S.still_earlier z.0 r reads z.1) z.1)))
  not_justified S r reads none (no_write_before no_source none_before) =
      none
      (no_write_before (no_source_back r no_source) (λ z. none_before (f z.0, write_before z.0 r z.1)))
  not_justified S r reads none (races_earlier no_source race) =
      let no_source' = no_source_back r no_source in
      none
      (no_write_before no_source' (λ z. none (races_earlier no_source' (S.some_race r (record {
        reads = reads;
        no_source = no_source;
        write_before = (f z.0, write_before z.0 r z.1);
        race = race;
      })))))

  -- ---- the findings

  carries_R : RacesStay p t f → (r : ℕ) → ShowsR p r → ShowsR t (f r)
  carries_R S r h = record { reads = h.reads; not_justified = not_justified S r h.reads h.not_justified }

  carries_A1 : (c : List ℕ) → ShowsA1 p c → ShowsA1 t (map f c)
  carries_A1 = cycle_map f injective (Wb0 p) (Wb0 t) wb0

  carries_A2 : (a b : ℕ) → ShowsA2 p a b → ShowsA2 t (f a) (f b)
  carries_A2 a b h = record { conflict = (same_conflict a b).0 h.conflict; before = (same_hb a b).0 h.before }

  carries_A3 : (a b : ℕ) → ShowsA3 p a b → ShowsA3 t (f a) (f b)
  carries_A3 a b h = record {
    before = (same_hb a b).0 h.before;
    s' = f h.s';
    s = f h.s;
    source' = source_along h.s' a h.source';
    source = source_along h.s b h.source;
    conflict = (same_conflict h.s' h.s).0 h.conflict;
  }

  carries_A4 : (c : List ℕ) → ShowsA4 p c → ShowsA4 t (map f c)
  carries_A4 = cycle_map f injective (ScStep p) (ScStep t) sc_step

  abbrev pair : ℕ → ℕ → Witness
  pair a b = a_pair (record { first = f a; second = f b })

  -- two records stand in t in the order that they have in p, or in the other
  in_some_order : (x : Finding) (a b : ℕ) → a < b → (f a < f b → Shows t x (pair a b)) → (f b < f a → Shows t x (pair b a)) → Holds t x
  in_some_order x a b l same other =
      tri (f a) (f b) (λ k. record { witness = pair a b; shows = same k })
      (λ e. let z = injective a b e in absurd (omega arith))
      (λ k. record { witness = pair b a; shows = other k })

  carries_A5 : (a b : ℕ) → ShowsA5 p a b → Holds t A5
  carries_A5 a b h =
      let source_a = source_along h.s a h.source_p in
      let source_b = source_along h.s b h.source_q in
      let apart : ¬ Conflict t (f a) (f b) = λ c. h.no_conflict ((same_conflict a b).1 c) in
      in_some_order A5 a b h.in_order
      (λ l. pair_with (record { in_order = l; update_p = h.update_p; update_q = h.update_q; s = f h.s; source_p = source_a; source_q = source_b; no_conflict = apart }))
      (λ l. pair_with (record { in_order = l; update_p = h.update_q; update_q = h.update_p; s = f h.s; source_p = source_b; source_q = source_a; no_conflict = λ c. apart (conflict_sym c) }))

  carries_W : (a b : ℕ) → ShowsW p a b → Holds t W
  carries_W a b h =
      let race = (same_race a b).0 h.race in
      in_some_order W a b h.in_order
      (λ l. pair_with (record { in_order = l; write_p = h.write_p; write_q = h.write_q; race = race }))
      (λ l. pair_with (record { in_order = l; write_p = h.write_q; write_q = h.write_p; race = race_sym race }))

  carries : (x : Finding) → (x ≡ R → RacesStay p t f) → (w : Witness) → Shows p x w → Holds t x
  carries R S w (record_with {n = r} h) = record { witness = a_record (f r); shows = record_with (carries_R (S refl) r h) }
  carries A1 S w (cycle_with {c = c} h) = record { witness = a_cycle (map f c); shows = cycle_with (carries_A1 c h) }
  carries A2 S w (pair_with {p = q} h) =
      let a = q.first in
      let b = q.second in
      record { witness = pair a b; shows = pair_with (carries_A2 a b h) }
  carries A3 S w (pair_with {p = q} h) =
      let a = q.first in
      let b = q.second in
      record { witness = pair a b; shows = pair_with (carries_A3 a b h) }
  carries A4 S w (cycle_with {c = c} h) = record { witness = a_cycle (map f c); shows = cycle_with (carries_A4 c h) }
  carries A5 S w (pair_with {p = q} h) = carries_A5 q.first q.second h
  carries W S w (pair_with {p = q} h) = carries_W q.first q.second h

  keeps_pulled : Keeps p t f
  keeps_pulled = record {
    related = related_pulled t' t f N;
    wb0 = wb0;
    wb = wb;
    fr = fr;
    po≠ = po≠;
    hbsc = hbsc;
    sc_step = sc_step;
    earlier_race_back = earlier_race_back;
    finding = λ x S h. carries x S h.witness h.shows;
  }

-- the lemma on renumberings
pub keeps : (t' t : Table) (f : ℕ → ℕ) → Renumbering t' t f → Keeps t' t f
keeps t' t f N = subst (λ (s : Table). Keeps s t f) (pulled_is t' t f N) (keeps_pulled t' t f N)

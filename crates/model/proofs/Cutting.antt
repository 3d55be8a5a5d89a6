-- Cutting a table down invents no fault.
use mathlib.Core.Path.{◌≡◌, sym, ap, subst, subst₂, ◌∙◌}
use mathlib.Core.Bool.{Bool, true}
use Prim.Native.Nat.{ℕ, ◌<◌}
use native.Mathlib.Omega.{arith}
use native.Mathlib.Decide.{dec_lt}
use lib.Dec.{T}
use Rattle.laws.specs.Steps.{Rel}
use Rattle.model.specs.Table.{Table, Inside, Parent, Source}
use Rattle.model.specs.Relations.{Po, Hb, Conflict, Race, EarlierRace, SomeEarlierRace, StandsOnRace}
use Rattle.model.specs.WellFormed.{WellFormed}
use Rattle.model.specs.Cut.{renumbered, new_number, CutOf, Complete, Selection, SameFor, NoFaultInvented}
use Rattle.model.proofs.CutNumbers.{old_number, new_below, old_rises, old_rises_back, old_injective, old_inside, old_kept, old_new, new_old}
use Rattle.model.proofs.Links.{record_back_again}
use Rattle.model.proofs.Facts.{parent_earlier, has_source, source_is_earlier_write, read_inside}
use Rattle.model.proofs.Renumber.{Renumbering, Alike}
use Rattle.model.proofs.Carried.{RacesStay, Keeps, keeps}
use Rattle.model.proofs.Renumbered.{LinksEarlier, well_formed_renumbered}

-- each record of a cut
pub cut_record :
    (k : ℕ → Bool) (t t' : Table) → CutOf k t t' → (i : ℕ) → Inside t' i → t'.at i ≡ renumbered (new_number k) (t.at (old_number k t.count i))
cut_record k t t' C i l =
    let h : i < new_number k t.count = omega (arith, C.count) in
    let inside = (old_inside k t.count i).0 h in
    ap t'.at (sym (new_old k t.count i h)) ∙ C.kept (old_number k t.count i) inside (old_kept k t.count i inside)

module _ (k : ℕ → Bool) (t t' : Table) (W : WellFormed t) (S : Selection k t) (C : CutOf k t t') where
  abbrev f : ℕ → ℕ
  f = old_number k t.count

  inside_old : (i : ℕ) → Inside t' i → Inside t (f i)
  inside_old i l = (old_inside k t.count i).0 (omega (arith, C.count))

  inside_new : (i : ℕ) → Inside t (f i) → Inside t' i
  inside_new i l = omega (arith, C.count, (old_inside k t.count i).1 l)

  -- a record of the cut lacks nothing in the whole
  complete : (i : ℕ) → Inside t (f i) → Complete k t (f i)
  complete i l = S.complete (f i) l (old_kept k t.count i l)

  there_and_back : (n : ℕ) → Inside t n → T (k n) → f (new_number k n) ≡ n
  there_and_back n = old_new k t.count n

  parent_back : (i n : ℕ) → Inside t (f i) → Parent t n (f i) → f (new_number k n) ≡ n
  parent_back i n l e = let b = parent_earlier W n (f i) e in there_and_back n (omega arith) ((complete i l).parent n e)

  source_back : (i n : ℕ) → Inside t (f i) → Source t n (f i) → f (new_number k n) ≡ n
  source_back i n l e =
      let b = (source_is_earlier_write W e).earlier in
      there_and_back n (omega arith) ((complete i l).source n e)

  carried : (i : ℕ) → t.at (f i) ≡ renumbered f (t'.at i)
  carried i = go (dec_lt i t'.count)
    where
      go : Dec (Inside t' i) → t.at (f i) ≡ renumbered f (t'.at i)
      go (yes l) =
          let h = inside_old i l in
          record_back_again f (new_number k) (t.at (f i)) (λ n. parent_back i n h) (λ n e. source_back i n h (has_source W n (f i) e))
          ∙ ap (renumbered f) (sym (cut_record k t t' C i l))
      go (no l) =
          let h : ¬ Inside t (f i) = λ b. l (inside_new i b) in
          W.ends.past (f i) (omega arith) ∙ ap (renumbered f) (sym (C.ends.past i (omega arith)))

  renumbering : Renumbering t' t f
  renumbering = record {
    injective = old_injective k t.count;
    inside = λ i. (inside_old i, inside_new i);
    carried = carried;
  }

  kept : Keeps t' t f
  kept = keeps t' t f renumbering

  links_earlier : LinksEarlier t'
  links_earlier = record {
    parent = λ n p l e. old_rises_back k t.count p n (parent_earlier W (f p) (f n) (kept.related.parent_along p n e));
    source = λ n s l e. old_rises_back k t.count s n (source_is_earlier_write W (kept.related.source_along s n e)).earlier;
  }

  some_record : 0 < t'.count
  some_record =
      let (n, (l, h)) = S.some_kept in
      omega (arith, C.count, new_below k n t.count l h)

  -- one of the writes that a read stands on is kept
  some_race : (r : ℕ) → StandsOnRace t (f r) → SomeEarlierRace t' r
  some_race r s =
      let l = read_inside W (f r) s.reads in
      let (w, (h, race)) = (complete r l).racing_write s in
      let b = race.earlier in
      let e = there_and_back w (omega arith) h in
      (new_number k w, kept.earlier_race_back (new_number k w) r (old_rises_back k t.count (new_number k w) r (omega arith)) (subst (λ (x : ℕ). EarlierRace t x (f r)) (sym e) race))

  races_stay : RacesStay t' t f
  races_stay = record { still_earlier = λ w r reads race. old_rises k t.count w r race.earlier; some_race = some_race }

  same_for : (R R' : Rel) → Alike f R' R → SameFor k t R R'
  same_for R R' alike m n l h l' h' =
      let e = there_and_back m l h in
      let e' = there_and_back n l' h' in
      let x = alike (new_number k m) (new_number k n) in
      (λ r. x.1 (subst₂ R (sym e) (sym e') r), λ r. subst₂ R e e' (x.0 r))

  no_fault : NoFaultInvented k t t'
  no_fault = record {
    well_formed = well_formed_renumbered t' t f renumbering W some_record links_earlier;
    same_po = same_for (Po t) (Po t') kept.related.same_po;
    same_hb = same_for (Hb t) (Hb t') kept.related.same_hb;
    same_conflict = same_for (Conflict t) (Conflict t') kept.related.same_conflict;
    same_race = same_for (Race t) (Race t') kept.related.same_race;
    no_finding = λ x absent h. absent (kept.finding x (λ e. races_stay) h);
  }

-- Demand 3: cutting a table down invents no fault.
pub cut_invents_no_fault :
    (k : ℕ → Bool) (t t' : Table) → WellFormed t → Selection k t → CutOf k t t' → NoFaultInvented k t t'
cut_invents_no_fault k t t' W S C = no_fault k t t' W S C

-- the premises can be met: all of a well-formed table may be kept
pub keep_all : (t : Table) → WellFormed t → Selection (λ n. true) t
keep_all t W = record {
  some_kept = (0, (W.some_record, tt));
  complete = λ n l h. record {
    parent = λ p e. tt;
    source = λ s e. tt;
    racing_write = λ s. (s.race.0, (tt, s.race.1));
  };
}

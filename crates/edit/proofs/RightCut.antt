-- Demand 3, on the bytes that a cut wrote.
use Rattle.std.specs.Prelude.{None, Err, Ok, Result}
use mathlib.Core.Path.{◌≡◌, refl, sym, subst, subst⁻¹, ap, ◌∙◌}
use mathlib.Core.Bool.{Bool}
use mathlib.Core.List.{List}
use Prim.Native.Nat.{ℕ, ◌*◌, ◌<◌}
use native.Mathlib.Omega.{arith}
use native.Mathlib.Decide.{dec_lt}
use lib.Dec.{T}
use lib.ListN.{length, take, drop}
use lib.Seq.{take_at}
use Rattle.laws.specs.Least.{Least, LeastNumber}
use Rattle.laws.proofs.Says.{by_dec, says_T, says_dec, says_lt, says_and, says_any, says_any_below, says_iff}
use Rattle.selections.specs.Selection.{named, Refused9, empty, past_count}
use Rattle.record.specs.Form.{parent_byte, source_byte, decode, part}
use Rattle.events.specs.Words.{is_write}
use Rattle.model.specs.Table.{Table, Inside}
use Rattle.model.specs.WellFormed.{WellFormed}
use Rattle.model.specs.Cut.{new_number, renumbered, Complete, Selection, CutOf, NoFaultInvented}
use Rattle.model.proofs.CutNumbers.{old_number, new_at_most, old_inside, old_kept, new_old}
use Rattle.model.proofs.Cutting.{cut_invents_no_fault}
use Rattle.model.proofs.MirrorTells.{race_told}
use Rattle.model.proofs.Within.{race_within}
use Rattle.refusals.specs.declared.Refusal.{Refusal}
use Rattle.table.specs.Events.{count_of, events_of}
use Rattle.table.specs.Test.{length_ok, Passes, RecordsAnswer, sound, TestAnswer, records}
use Rattle.table.proofs.Exact.{at_decoded}
use Rattle.table.proofs.Front.{says_right_length}
use Rattle.table.proofs.WellFormed.{sound_count, events_end}
use Rattle.facts.specs.Sound.{SoundTable}
use Rattle.facts.proofs.Promise.{sound_table}
use Rattle.edit.specs.Cut.{kept_bytes, RaceKept, Lacking, Whole, Decides, bad_table, bad_selection, lacking, no_room, good, CutAnswer, RightCut}
use Rattle.edit.proofs.KeptBytes.{kept_length, kept_part_lem}
use Rattle.edit.proofs.RecordLinks.{earlier}
use Rattle.edit.proofs.Relinked.{decode_renumbered}

-- ---- a selection that is not refused

some_named : {s : List ℕ} {count : ℕ} → ¬ Refused9 s count → (n : ℕ) × ((n < count) × T (named s n))
some_named {s} {count} fine = by_dec (says_dec (says_any_below (λ i _. says_T (named s i)))) none_named
  where
    none_named : ¬ ((n : ℕ) × ((n < count) × T (named s n))) → ⊥
    none_named not = fine (empty (λ n is. place n is (dec_lt n count)))
      where
        place : (n : ℕ) → T (named s n) → Dec (n < count) → ⊥
        place n is (yes h) = not (n, (h, is))
        place n is (no h) = fine (past_count {n = n} (omega arith) is)

module _ (k : ℕ → Bool) (t : Table) (W : WellFormed t) where
  -- a record that lacks nothing has its parent, its source and its racing write
  nothing_lacked : (n : ℕ) → Inside t n → T (k n) → ¬ Lacking k t n → Complete k t n
  nothing_lacked n h is fine = record {
    parent = λ p e. by_dec (says_dec (says_T (k p))) (λ not. lacks (λ c. not (c.parent p e)));
    source = λ s c. by_dec (says_dec (says_T (k s))) (λ not. lacks (λ x. not (x.source s c)));
    racing_write = λ s. by_dec racing (λ not. lacks (λ c. not (c.racing_write s)));
  }
    where
      lacks : ¬ Complete k t n → ⊥
      lacks not = fine (record { inside = h; kept = is; incomplete = not })

      racing : Dec (RaceKept k t n)
      racing = says_dec (says_any (λ w (_, r). (race_within W).left r.race) (λ w l.
          says_and (says_T (k w))
          (says_iff (λ (e, (write, race)). record { earlier = e; write = write; race = race }) (λ r. (r.earlier, (r.write, r.race)))
          (says_and (says_lt w n) (says_and (says_T (is_write (t.at w).event)) ((race_told W).each w n l h))))))

  selection : (n : ℕ) × (Inside t n × T (k n)) → LeastNumber (Lacking k t) None → Selection k t
  selection some (Least.absent lacks) = record { some_kept = some; complete = λ n h is. nothing_lacked n h is (lacks n) }

-- ---- what is written

module _ (b : List ℕ) (k : ℕ → Bool) (S : SoundTable b) where
  abbrev t : Table
  t = events_of b

  abbrev cut : List ℕ
  cut = kept_bytes k b t.count

  cut_length : length cut ≡ 16 * new_number k t.count
  cut_length = kept_length k b t.count (omega (arith, S.size))

  -- a kept record is read back with its links renumbered
  kept_decodes : (n : ℕ) → Inside t n → T (k n) → decode (part cut (new_number k n)) ≡ Ok (renumbered (new_number k) (t.at n))
  kept_decodes n h is =
      let links = earlier (record { sound = S; inside = h }) in
      let few = S.few in
      ap decode (kept_part_lem k b t.count n (omega (arith, S.size)) h is)
      ∙ decode_renumbered (new_number k) (part b n) (t.at n)
      (λ some e. absurd (omega (arith, links.parent some, new_at_most k (parent_byte (part b n)))))
      (λ some e. absurd (omega (arith, links.source some, new_at_most k (source_byte (part b n)))))
      links.long (S.decodes n h)

  is_cut : CutOf k t (events_of cut)
  unfolding events_of
  is_cut = record {
    count = omega (arith, cut_length);
    kept = λ n h is. at_decoded cut (new_number k n) (kept_decodes n h is);
    ends = events_end cut (omega (arith, cut_length));
  }

  module _ (selected : Selection k t) where
    invents_nothing : NoFaultInvented k t (events_of cut)
    invents_nothing = cut_invents_no_fault k t (events_of cut) S.formed selected is_cut

    cut_passes : (i : ℕ) → i < new_number k t.count → Passes cut i
    cut_passes i h =
        let old = old_number k t.count i in
        let inside = (old_inside k t.count i).0 h in
        let sound = invents_nothing.well_formed.sound i (omega (arith, is_cut.count)) in
        record {
          decodes = record {
            value = renumbered (new_number k) (t.at old);
            read = ap (λ (j : ℕ). decode (part cut j)) (sym (new_old k t.count i h)) ∙ kept_decodes old inside (old_kept k t.count i inside);
          };
          not_6 = sound.not_6;
          not_7 = sound.not_7;
          not_8 = sound.not_8;
        }

    cut_sound : TestAnswer cut (Ok (new_number k t.count))
    cut_sound =
        let long = cut_length in
        let some = invents_nothing.well_formed.some_record in
        let counted = is_cut.count in
        let most = new_at_most k t.count in
        let few = S.few in
        let count : count_of cut ≡ new_number k t.count = omega arith in
        let right : T (length_ok (length cut)) = (says_right_length (length cut)).from (omega arith) in
        records right
        (subst (λ (n : ℕ). RecordsAnswer cut (Ok n)) count (sound (λ i h. cut_passes i (omega (arith, count)))))

    right : RightCut b k (new_number k t.count) cut
    right = record { sound = cut_sound; cut = is_cut; no_fault = invents_nothing }

not_kept : {A : Type 0} {r : Refusal} {n : ℕ} → Err r ≡ Ok n → A
not_kept e = absurd (let z : ◌≡◌ {A = ℕ} 0 1 = cc in omega arith)

kept_whole : {b s before : List ℕ} {n : ℕ} {a : Result ℕ Refusal} → Decides b s before a → a ≡ Ok n → (m : ℕ) × (Whole b s m × (n ≡ new_number (named s) m))
kept_whole (bad_table _) e = not_kept e
kept_whole (bad_selection _ _ _) e = not_kept e
kept_whole (lacking _ _ _) e = not_kept e
kept_whole (no_room _ _ _) e = not_kept e
kept_whole (good {n = m} w _) e = (m, (w, cc))

-- Demand 3, as one theorem about what the cut wrote
pub cut_right :
    (b s before after : List ℕ) (n : ℕ) → CutAnswer b s before after (Ok n) → RightCut b (named s) n (take (16 * n) after)
cut_right b s before after n answer =
    let k = named s in
    let (m, (whole, size)) = kept_whole answer.decided refl in
    let passed = whole.selected.sound in
    let count = sound_count b m passed in
    let S = sound_table b m passed in
    let same = size ∙ ap (new_number k) (sym count) in
    let written = ap (take (16 * n)) answer.bytes ∙ take_at (cut b k S) (drop (16 * new_number k (events_of b).count) before) (16 * n) (cut_length b k S ∙ ap (λ (x : ℕ). 16 * x) (sym same)) in
    let some = some_named (subst⁻¹ (λ (x : ℕ). ¬ Refused9 s x) count whole.selected.not_9) in
    subst⁻¹ (RightCut b k n) written
    (subst⁻¹ (λ (x : ℕ). RightCut b k x (cut b k S)) same
    (right b k S (selection k (events_of b) S.formed some whole.not_10)))

-- The loop over a batch: the tables that were passed, and their texts at the front of the output.
use mathlib.Core.Path.{◌≡◌, refl, sym, ap, ◌∙◌}
use mathlib.Core.List.{List, [], ◌∷◌, ◌++◌}
use Prim.Native.Nat.{ℕ, ◌+◌, ◌*◌, ◌≤◌}
use native.Mathlib.Nat.{zero-add}
use native.Mathlib.Omega.{arith}
use lib.ListN.{length, take, drop, length-append}
use lib.Seq.{take_at}
use Rattle.std.proofs.Common.{Result}
use Rattle.refusals.specs.declared.Refusal.{Refusal}
use Rattle.batches.specs.Batch.{most, table, end, stands_at, part, end_of}
use Rattle.batches.specs.Answers.{Each, none_left}
use Rattle.batches.proofs.Standing.{inside}
use Rattle.batches.proofs.Passed.{Passed, passed_none, passed_one, passed_all}
use Rattle.batches.proofs.Answering.{each_last}
use Rattle.text.specs.Text.{Written}
use Rattle.text.proofs.Laws as text
use Rattle.lines.specs.Answer.{TextOf}
use Rattle.lines.proofs.Answering.{text_within}
use Rattle.answers.specs.Answer.{all_texts}
use Rattle.answers.specs.Room.{enough, TextPut, TextsAt}
use Rattle.answers.proofs.Enough.{part_long}

-- on the way: the loop stands at a place of the batch b, with so many tables answered and so many bytes written to the output
pub record Along (b before out : List ℕ) (place tables bytes : ℕ) : Type 0 where
  pub list : List (List ℕ)
  pub texts : List (List ℕ)
  pub passed : Passed b place list
  pub each : Each TextOf list texts
  pub counted : tables ≡ length texts
  pub written : Written before 0 (all_texts texts) out bytes
  -- six bytes of text for each byte passed
  pub short : bytes ≤ 6 * place
  pub few : tables ≤ place
  pub little : place ≤ most

module _ (b before : List ℕ) where
  pub along_none : Along b before before 0 0 0
  along_none = record {
    list = [];
    texts = [];
    passed = passed_none b;
    each = none_left;
    counted = refl;
    written = text.written_nothing before 0;
    short = omega arith;
    few = omega arith;
    little = omega arith;
  }

  module _ (room : enough ≤ length before) {out : List ℕ} {place tables bytes : ℕ} (so_far : Along b before out place tables bytes) where
    text_fits : 0 + length (all_texts so_far.texts) ≤ length before
    text_fits = omega (arith, so_far.written.next, so_far.short, so_far.little)

    pub out_long : length out ≡ length before
    out_long = text.written_length text_fits so_far.written

    module _ (from to : ℕ) (is : stands_at b place ≡ table from to) where
      pub room_for_one : bytes + (24 + 6 * length (part b from to)) ≤ length out
      room_for_one =
          let i = inside place is in
          omega (
            arith,
            part_long b place from to is,
            i.start,
            i.stop,
            i.within,
            i.small,
            so_far.short,
            out_long,
          )

      pub along_one : {after : List ℕ} {r : ℕ} → TextPut (part b from to) out bytes after r → Along b before after to (tables + 1) r
      along_one {after} {r} put =
          let i = inside place is in
          let long = text_within put.is in
          record {
            list = so_far.list ++ (part b from to ∷ []);
            texts = so_far.texts ++ (put.text ∷ []);
            passed = passed_one b place so_far.passed from to is;
            each = each_last TextOf so_far.each put.is;
            counted = omega (arith, so_far.counted, length-append so_far.texts (put.text ∷ []));
            written = text.written_text (sym all) (text.written_then fits so_far.written put.written);
            short = omega (arith, put.written.next, so_far.short, part_long b place from to is, i.start, i.stop);
            few = omega (arith, so_far.few, i.start, i.stop);
            little = omega (arith, i.within, i.small);
          }
        where
          all : all_texts (so_far.texts ++ (put.text ∷ [])) ≡ all_texts so_far.texts ++ put.text
          all = text.each_last (λ (x : List ℕ). x) so_far.texts put.text

          fits : 0 + length (all_texts so_far.texts ++ put.text) ≤ length before
          fits =
              omega (
                arith,
                length-append (all_texts so_far.texts) put.text,
                text_within put.is,
                room_for_one,
                out_long,
                so_far.written.next,
              )

    pub along_all : {e : Result (Unit {0}) Refusal} → stands_at b place ≡ end (end_of e) → TextsAt b out (record { tables = tables; bytes = bytes; ending = e })
    along_all is = record {
      texts = so_far.texts;
      answers = record { tables = so_far.list; holds = passed_all b place so_far.passed is; each = so_far.each };
      tables = so_far.counted;
      front =
          ap (take bytes) so_far.written.holds
          ∙ take_at (all_texts so_far.texts) (drop (0 + length (all_texts so_far.texts)) before) bytes (sym long);
      within = omega (arith, long, text_fits, out_long);
    }
      where
        long : bytes ≡ length (all_texts so_far.texts)
        long = so_far.written.next ∙ zero-add (length (all_texts so_far.texts))

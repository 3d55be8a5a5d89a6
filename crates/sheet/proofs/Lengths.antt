-- How long the text of a batch's figures can be: no number of it has more than five digits, and no line more than 21 bytes.
use Rattle.refusals.specs.declared.Refusal.{Refusal}
use Rattle.std.specs.Prelude.{Ok, Result}
use mathlib.Core.Path.{◌≡◌, refl, ap}
use mathlib.Core.Bool.{Bool, true, false, cond}
use mathlib.Core.List.{List, [], ◌∷◌, ◌++◌}
use Prim.Native.Nat.{ℕ, suc, ◌+◌, ◌-◌, ◌*◌, ◌<◌, ◌≤◌}
use native.Mathlib.Omega.{arith}
use lib.Dec.{eqb}
use lib.ListN.{length, get_or, length-append}
use Rattle.limits.specs.Limit.{limit}
use Rattle.findings.specs.declared.Finding.{Finding}
use Rattle.findings.specs.declared.Finding.TheVariants.{R, A1, A2, A3, A4, A5, W}
use Rattle.findings.specs.declared.Verdict.TheVariants.{Undefined, Inconsistent, Consistent}
use Rattle.findings.specs.Family.{all_in_order, place_of, name_of}
use Rattle.batches.specs.Batch.{End, cleanly, refused}
use Rattle.batches.specs.Answers.{Each, none_left, and_then, AnswersOf}
use Rattle.batches.proofs.Whole.{end_small}
use Rattle.batches.proofs.Reading.{few_tables}
use Rattle.table.specs.Events.{count_of}
use Rattle.table.specs.Test.{TestAnswer, wrong_length, records, RecordsAnswer, sound}
use Rattle.table.proofs.Front.{right_length}
use Rattle.text.specs.Text.{each, spaced}
use Rattle.phrases.specs.Phrases.{line, refused_word, refused_text}
use Rattle.phrases.proofs.Lengths.{decimal_3, decimal_5, line_length, refused_short}
use Rattle.tally.specs.declared.Figures.{Figures}
use Rattle.tally.specs.Answer.{Answer, AnswerOf, by_test, by_judging}
use Rattle.tally.specs.Figures as tally
use Rattle.tally.proofs.Laws.{count_within, counts_within}
use Rattle.sheet.specs.Sheet.{tables_word, consistent_word, inconsistent_word, undefined_word, largest_word, refused_line, found_line, counts_text, verdicts_text, figures_text, sheet_text}
use Rattle.sheet.specs.Answer.{longest_sheet}

-- ---- the lines

number_short : (name : List ℕ) (n : ℕ) → length name ≤ 14 → n < 100000 → length (line name (spaced n)) ≤ 21
number_short name n h k = omega (arith, line_length name (spaced n), decimal_5 n k)

module _ {A : Type 0} (piece : A → List ℕ) where
  abbrev AllShort : List A → Type 0
  AllShort [] = Unit {0}
  AllShort (a ∷ l) = (length (piece a) ≤ 21) × AllShort l

  each_short : (l : List A) → AllShort l → length (each piece l) ≤ 21 * length l
  each_short [] h = omega arith
  each_short (a ∷ l) (h, more) = omega (arith, length-append (piece a) (each piece l), each_short l more)

  all_short : ((a : A) → length (piece a) ≤ 21) → (l : List A) → AllShort l
  all_short h [] = tt
  all_short h (a ∷ l) = (h a, all_short h l)

name_short : (f : Finding) → length (name_of f) ≤ 14
name_short R = omega arith
name_short A1 = omega arith
name_short A2 = omega arith
name_short A3 = omega arith
name_short A4 = omega arith
name_short A5 = omega arith
name_short W = omega arith

-- ---- the figures, each below 100,000

record Few (f : Figures) : Type 0 where
  tables : f.tables < 100000
  refused_each : (k : ℕ) → get_or f.refused k 0 < 100000
  found_each : (k : ℕ) → get_or f.found k 0 < 100000
  consistent : f.consistent < 100000
  inconsistent : f.inconsistent < 100000
  undefined : f.undefined < 100000
  largest : f.largest < 100000

module _ (f : Figures) (few : Few f) where
  refused_line_short : (number : ℕ) → number < 1000 → length (refused_line f.refused number) ≤ 21
  refused_line_short number h =
      let count = get_or f.refused (number - 1) 0 in
      omega (
        arith,
        line_length refused_word (spaced number ++ spaced count),
        length-append (spaced number) (spaced count),
        decimal_3 number h,
        decimal_5 count (few.refused_each (number - 1)),
      )

  found_line_short : (x : Finding) → length (found_line f.found x) ≤ 21
  found_line_short x = number_short (name_of x) _ (name_short x) (few.found_each (place_of x))

  refused_lines_short : length (each (refused_line f.refused) tally.numbers) ≤ 21 * length tally.numbers
  refused_lines_short =
      let s = refused_line_short in
      each_short (refused_line f.refused) tally.numbers
      (s 1 (omega arith), (s 2 (omega arith), (s 3 (omega arith), (s 4 (omega arith), (s 5 (omega arith), (s 6 (omega arith), (s 7 (omega arith), (s 8 (omega arith), tt))))))))

  found_lines_short : length (each (found_line f.found) all_in_order) ≤ 21 * length all_in_order
  found_lines_short = each_short (found_line f.found) all_in_order (all_short (found_line f.found) found_line_short all_in_order)

  counts_short : length (counts_text f) ≤ 21 * (1 + length tally.numbers + length all_in_order)
  counts_short =
      let tables = line tables_word (spaced f.tables) in
      let refused = each (refused_line f.refused) tally.numbers in
      let found = each (found_line f.found) all_in_order in
      omega (
        arith,
        length-append tables (refused ++ found),
        length-append refused found,
        number_short tables_word f.tables (omega arith) few.tables,
        refused_lines_short,
        found_lines_short,
      )

  verdicts_short : length (verdicts_text f) ≤ 63
  verdicts_short =
      let first = line consistent_word (spaced f.consistent) in
      let second = line inconsistent_word (spaced f.inconsistent) in
      let third = line undefined_word (spaced f.undefined) in
      omega (
        arith,
        length-append first (second ++ third),
        length-append second third,
        number_short consistent_word f.consistent (omega arith) few.consistent,
        number_short inconsistent_word f.inconsistent (omega arith) few.inconsistent,
        number_short undefined_word f.undefined (omega arith) few.undefined,
      )

  figures_short : length (figures_text f) ≤ 21 * (5 + length tally.numbers + length all_in_order)
  unfolding figures_text
  figures_short =
      let last = line largest_word (spaced f.largest) in
      omega (
        arith,
        length-append (counts_text f) (verdicts_text f ++ last),
        length-append (verdicts_text f) last,
        counts_short,
        verdicts_short,
        number_short largest_word f.largest (omega arith) few.largest,
      )

-- ---- the figures of a batch

records_few : {b : List ℕ} {x : Answer} → AnswerOf b x → tally.records x ≤ limit
records_few (by_test _) = omega arith
records_few {b} (by_judging test _) = go test refl
  where
    go : {a : Result ℕ Refusal} {n : ℕ} → TestAnswer b a → a ≡ Ok n → n ≤ limit
    go (wrong_length _ _) e = absurd (let z : ◌≡◌ {A = ℕ} 0 1 = cc in omega arith)
    go (records ok (RecordsAnswer.refused _)) e = absurd (let z : ◌≡◌ {A = ℕ} 0 1 = cc in omega arith)
    go {n = n} (records ok (sound _)) e = let same : count_of b ≡ n = cc in omega (arith, (right_length (length b) ok).within)

largest_few : {tables : List (List ℕ)} {answers : List Answer} → Each AnswerOf tables answers → tally.largest_of answers ≤ limit
largest_few none_left = omega arith
largest_few (and_then p rest) = omega (arith, records_few p, largest_few rest)

as_many : {tables : List (List ℕ)} {answers : List Answer} → Each AnswerOf tables answers → length tables ≡ length answers
as_many none_left = refl
as_many (and_then _ rest) = ap suc (as_many rest)

figures_few : {b : List ℕ} {answers : List Answer} {e : End} → AnswersOf AnswerOf b answers e → Few (tally.figures_of answers)
unfolding tally.figures_of
figures_few {answers = answers} p =
    let few : length answers < 100000 = omega (arith, few_tables p.holds, as_many p.each) in record {
      tables = few;
      refused_each = λ k. let h = counts_within tally.refused_with answers tally.numbers k in omega arith;
      found_each = λ k. let h = counts_within tally.finds answers all_in_order k in omega arith;
      consistent = omega (arith, count_within (tally.judged_to Consistent) answers);
      inconsistent = omega (arith, count_within (tally.judged_to Inconsistent) answers);
      undefined = omega (arith, count_within (tally.judged_to Undefined) answers);
      largest = omega (arith, largest_few p.each);
    }

-- ---- the whole text

pub sheet_short : {b : List ℕ} {answers : List Answer} {e : End} → AnswersOf AnswerOf b answers e → length (sheet_text (tally.figures_of answers) e) ≤ longest_sheet
unfolding sheet_text
sheet_short {answers = answers} {e = cleanly} p = omega (arith, figures_short (tally.figures_of answers) (figures_few p))
sheet_short {answers = answers} {e = refused told} p = by (eqb told.number 1)
  where
    refusal : length (refused_text told) ≤ 21
    refusal = let small = end_small p.holds.all in refused_short told (omega (arith, small.number)) (omega (arith, small.place)) small.byte

    by : (b : Bool) → length (cond b (refused_text told) (figures_text (tally.figures_of answers) ++ refused_text told)) ≤ longest_sheet
    by true = omega (arith, refusal)
    by false =
        omega (
          arith,
          refusal,
          length-append (figures_text (tally.figures_of answers)) (refused_text told),
          figures_short (tally.figures_of answers) (figures_few p),
        )

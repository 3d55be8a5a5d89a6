-- Where the loop over a batch's tables is, and what a turn of it does: a table more is passed and counted, and less of the batch is left.
use mathlib.Core.Path.{◌≡◌, ap, sym, subst, ◌∙◌}
use mathlib.Core.Bool.{true}
use mathlib.Core.List.{List, [], ◌∷◌, ◌++◌}
use Prim.Native.Nat.{ℕ, ◌-◌, ◌*◌, ◌<◌, ◌≤◌, ◌^◌}
use native.Mathlib.Omega.{arith}
use lib.ListN.{length, length-append}
use Rattle.batches.specs.Batch.{Standing, end, end_of, stands_at}
use Rattle.batches.specs.Reading.{is_table, bytes_of, place_after}
use Rattle.batches.specs.Answers.{Each, none_left}
use Rattle.batches.proofs.Passed.{Passed, passed_none, passed_all}
use Rattle.batches.proofs.Reading.{grows, read_on}
use Rattle.batches.proofs.Answering.{each_last}
use Rattle.reader.specs.declared.Reader.{Reader}
use Rattle.tally.specs.declared.Figures.{Figures}
use Rattle.tally.specs.Answer.{Answer, AnswerOf}
use Rattle.tally.specs.Figures.{figures_of}
use Rattle.tally.specs.Sums.{sums, Small}
use Rattle.tally.proofs.Laws.{figures_join, figures_small}
use Rattle.counting.specs.Counting.{WithTable}
use Rattle.monday.specs.declared.Monday.{Monday}
use Rattle.monday.specs.Monday.{MondayOf}

-- the reader holds s, these tables were passed on the way to its place, and the figures are those of their answers
pub record State (s : List ℕ) (reader : Reader) (f : Figures) : Type 0 where
  pub tables : List (List ℕ)
  pub answers : List Answer
  pub holds_s : reader.batch.now ≡ s
  pub passed : Passed s reader.at tables
  pub each : Each AnswerOf tables answers
  pub is : f ≡ figures_of answers
  -- each table took four bytes at least, so that the figures are small
  pub few : 4 * length answers ≤ reader.at
  pub within : reader.at ≤ length s

module _ {s : List ℕ} {r : Reader} {f : Figures} where
  pub start : r.batch.now ≡ s → r.at ≡ 0 → f ≡ figures_of [] → State s r f
  start holds_s at is = record {
    tables = [];
    answers = [];
    holds_s = holds_s;
    passed = rw at (passed_none s);
    each = none_left;
    is = is;
    few = omega arith;
    within = omega (arith, at);
  }

  module _ (t : State s r f) where
    -- what stands at the reader's place, said of its own batch and of s
    abbrev here : Standing
    here = stands_at r.batch.now r.at

    at_s : here ≡ stands_at s r.at
    at_s = ap (λ (x : List ℕ). stands_at x r.at) t.holds_s

    pub small : length s < 2 ^ 64 → Small f
    small room = rw t.is (figures_small t.answers few)
      where
        few : length t.answers < 2 ^ 63
        few = let h = t.few in let g = t.within in omega arith

    -- where no table stands: the tables passed are all
    pub ends : (x : Monday) → x.figures ≡ f → end (end_of x.ending) ≡ here → MondayOf s x
    ends x figures ending = record {
      answers = t.answers;
      of = record { tables = t.tables; holds = passed_all s r.at t.passed (sym (ending ∙ at_s)); each = t.each };
      is = figures ∙ t.is;
    }

    -- a turn that counts a table, and moves on to another reader
    module _ (is_one : is_table here ≡ true) where
      one : is_table (stands_at s r.at) ≡ true
      one = ap is_table (sym at_s) ∙ is_one

      module _ (on : Reader) (moved : on.at ≡ place_after r.at here) where
        at_next : on.at ≡ place_after r.at (stands_at s r.at)
        at_next = moved ∙ ap (place_after r.at) at_s

        pub nearer : length s - on.at < length s - r.at
        nearer = let g = grows s r.at one in omega (arith, at_next)

        module _ {part : List ℕ} {more : Figures} (same : on.batch.now ≡ r.batch.now) (bytes : part ≡ bytes_of r.batch.now here) (counts : WithTable f part more) where
          bytes_s : bytes_of r.batch.now here ≡ bytes_of s (stands_at s r.at)
          bytes_s = ap (λ (x : List ℕ). bytes_of x (stands_at x r.at)) t.holds_s

          counted : more ≡ figures_of (t.answers ++ (counts.answer ∷ []))
          counted = counts.is ∙ (ap (λ (x : Figures). sums x (figures_of (counts.answer ∷ []))) t.is ∙ sym (figures_join t.answers (counts.answer ∷ [])))

          pub onward : State s on more
          onward = let g = grows s r.at one in record {
            tables = t.tables ++ (bytes_of s (stands_at s r.at) ∷ []);
            answers = t.answers ++ (counts.answer ∷ []);
            holds_s = same ∙ t.holds_s;
            passed = rw at_next (read_on s r.at t.passed one);
            each = each_last AnswerOf t.each (subst (λ (l : List ℕ). AnswerOf l counts.answer) (bytes ∙ bytes_s) counts.of);
            is = counted;
            few = let h = t.few in omega (arith, at_next, length-append t.answers (counts.answer ∷ []));
            within = omega (arith, at_next);
          }

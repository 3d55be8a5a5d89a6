-- How much room is always enough: six bytes for each byte of the batch.
use mathlib.Core.Path.{◌≡◌}
use mathlib.Core.List.{List}
use Prim.Native.Nat.{ℕ, ◌-◌, ◌*◌, ◌≤◌}
use native.Mathlib.Omega.{arith}
use lib.ListN.{length, drop, length-append, length-drop}
use lib.Seq.{length-take-le}
use Rattle.std.proofs.Common.{Err}
use Rattle.refusals.specs.declared.Refusal.{Refusal}
use Rattle.batches.specs.Batch.{End, table, stands_at, part, HoldsFrom, no_more, one_more}
use Rattle.batches.specs.Answers.{Each, none_left, and_then, AnswersOf}
use Rattle.batches.proofs.Standing.{inside}
use Rattle.lines.specs.Answer.{TextOf}
use Rattle.lines.proofs.Answering.{text_within}
use Rattle.answers.specs.Answer.{all_texts, RunAnswer, no_room}

-- the part that is a table is as long as it says
pub part_long : (b : List ℕ) (place from to : ℕ) → stands_at b place ≡ table from to → length (part b from to) ≡ to - from
part_long b place from to is =
    let i = inside place is in
    length-take-le (to - from) (drop from b) (omega (arith, i.start, i.stop, i.within, length-drop from b))

within_from : (b : List ℕ) {place : ℕ} {tables texts : List (List ℕ)} {e : End} → HoldsFrom b place tables e → Each TextOf tables texts → length (all_texts texts) ≤ 6 * (length b - place)
within_from b (no_more _) none_left = omega arith
within_from b (one_more {place = place} {from = from} {to = to} is more) (and_then {answer = text} {answers = texts} one rest) =
    let i = inside place is in
    omega (
      arith,
      length-append text (all_texts texts),
      text_within one,
      part_long b place from to is,
      within_from b more rest,
      i.start,
      i.stop,
      i.within,
    )

pub texts_within : {b : List ℕ} {texts : List (List ℕ)} {e : End} → AnswersOf TextOf b texts e → length (all_texts texts) ≤ 6 * length b
texts_within {b} p = omega (arith, within_from b p.holds.all p.each)

-- such an output is never refused
pub never_short : {A : Type 0} {b before after : List ℕ} {r : Refusal} → 6 * length b ≤ length before → RunAnswer b before after (Err r) → A
never_short {b = b} room (no_room p h _ _) = absurd (omega (arith, texts_within p))

-- An input has one third opinion, which is the first program's text where it is not too large; and writing it has one result.
use mathlib.Core.Path.{◌≡◌, refl}
use mathlib.Core.List.{List}
use Prim.Native.Nat.{ℕ, ◌≤◌}
use native.Mathlib.Omega.{arith}
use lib.ListN.{length}
use Rattle.std.proofs.Common.{Result}
use Rattle.refusals.specs.declared.Refusal.{Refusal}
use Rattle.phrases.specs.Handed.{Front, Writes}
use Rattle.phrases.proofs.Handing.{OneResult, writes_one}
use Rattle.lines.specs.Answer.{WriteAnswer}
use Rattle.lines.proofs.Unique.{text_one}
use Rattle.opinion.specs.Opinion.{most, OpinionOf, too_large, answered, WriteOpinion}

-- a text of one sort is one of another
writes_as :
    {S T : List ℕ → Type 0} {before after : List ℕ} {x : Result ℕ Refusal} → ((text : List ℕ) → S text → T text) → Writes S before after x → Writes T before after x
writes_as to (Writes.no_room t h k e) = Writes.no_room (to _ t) h k e
writes_as to (Writes.written t e l a) = Writes.written (to _ t) e l a

pub front_as : {S T : List ℕ → Type 0} {out : List ℕ} {len : ℕ} → ((text : List ℕ) → S text → T text) → Front S out len → Front T out len
front_as to f = record { text = to _ f.text; within = f.within }

module _ {b : List ℕ} where
  pub opinion_one : {s u : List ℕ} → OpinionOf b s → OpinionOf b u → s ≡ u
  opinion_one (too_large _) (too_large _) = refl
  opinion_one (too_large h) (answered l _) = absurd (omega arith)
  opinion_one (answered l _) (too_large h) = absurd (omega arith)
  opinion_one (answered _ x) (answered _ y) = text_one x y

  pub write_one : {before after after' : List ℕ} {x y : Result ℕ Refusal} → WriteOpinion b before after x → WriteOpinion b before after' y → OneResult x y after after'
  write_one = writes_one (OpinionOf b) (λ s u. opinion_one)

  -- up to 24 records the two programs write the same
  pub as_the_judge :
      {before after after' : List ℕ} {x y : Result ℕ Refusal} → length b ≤ most → WriteAnswer b before after x → WriteOpinion b before after' y → OneResult x y after after'
  as_the_judge small w = write_one (writes_as (λ text. answered small) w)

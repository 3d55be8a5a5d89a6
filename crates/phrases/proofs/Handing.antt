-- A text that was made aside, at the front of a buffer, is handed over.
use mathlib.Core.Path.{◌≡◌, refl, sym, ap, ap₂, subst, ◌∙◌}
use mathlib.Core.List.{List, ◌++◌}
use Prim.Native.Nat.{ℕ, ◌+◌, ◌<◌, ◌≤◌}
use native.Mathlib.Nat.{zero-add}
use native.Mathlib.Omega.{arith}
use lib.ListN.{length, take, drop}
use lib.Seq.{take_at, length-take-le}
use Rattle.std.proofs.Common.{Result, Ok, Err}
use Rattle.refusals.specs.declared.Refusal.{Refusal}
use Rattle.refusals.specs.declared.Refusal.TheVariants as refusal
use Rattle.refusals.proofs.Known.{same_refusal}
use Rattle.text.specs.Text.{Written}
use Rattle.text.proofs.Laws.{written_length}
use Rattle.phrases.specs.Room.{Room}
use Rattle.phrases.specs.Handed.{IsText, the_text, Front, Writes}

-- ---- what was written from 0 on stands at the front

module _ (Such : List ℕ → Type 0) where
  pub front_there :
      (out : List ℕ) {text : List ℕ} → Such text → Room out 0 text → {after : List ℕ} {len : ℕ} → Written out 0 text after len → Front Such after len
  front_there out {text} is room {after} {len} w = record {
    text = subst Such (sym (ap (take len) w.holds ∙ take_at text (drop (0 + length text) out) len (sym long))) is;
    within = omega (arith, room, written_length room w, long);
  }
    where
      long : len ≡ length text
      long = w.next ∙ zero-add (length text)

  pub front_long : {out : List ℕ} {len : ℕ} → Front Such out len → length (take len out) ≡ len
  front_long {out} {len} at = length-take-le len out at.within

  -- which text it is, said of the text itself
  pub writes_such : {text before after : List ℕ} {x : Result ℕ Refusal} → Such text → Writes (IsText text) before after x → Writes Such before after x
  writes_such is (Writes.no_room the_text h r e) = Writes.no_room is h r e
  writes_such is (Writes.written the_text len h e) = Writes.written is len h e

-- ---- it is handed over, if it has room

module _ (text before : List ℕ) where
  pub too_short : length before < length text → Writes (IsText text) before before (Err refusal.Room)
  too_short h = Writes.no_room the_text h refl refl

  pub handed : length text ≤ length before → {copied : List ℕ} → copied ≡ text → Writes (IsText text) before (copied ++ drop (length text) before) (Ok (length text))
  handed h is = Writes.written the_text refl h (ap (λ (l : List ℕ). l ++ drop (length text) before) is)

-- ---- one result, where there is one such text

-- the same answer, and the same bytes
pub record OneResult (x y : Result ℕ Refusal) (after after' : List ℕ) : Type 0 where
  pub result : x ≡ y
  pub bytes : after ≡ after'

module _ (Such : List ℕ → Type 0) (one : (s u : List ℕ) → Such s → Such u → s ≡ u) where
  pub writes_one : {before after after' : List ℕ} {x y : Result ℕ Refusal} → Writes Such before after x → Writes Such before after' y → OneResult x y after after'
  writes_one (Writes.no_room _ _ k e) (Writes.no_room _ _ l e') =
      record { result = ap Err (same_refusal k l); bytes = e ∙ sym e' }
  writes_one (Writes.no_room t h _ _) (Writes.written u e l _) = absurd (omega (arith, ap length (one _ _ t u)))
  writes_one (Writes.written t e l _) (Writes.no_room u h _ _) = absurd (omega (arith, ap length (one _ _ t u)))
  writes_one {before} (Writes.written {len = m} t e _ a) (Writes.written {len = n} v f _ c) =
      let w = one _ _ t v in
      let same : m ≡ n = e ∙ ap length w ∙ sym f in
      record { result = ap Ok same; bytes = a ∙ ap₂ (λ (l : List ℕ) (k : ℕ). l ++ drop k before) w same ∙ sym c }

-- The text of a table's answer, written into the part of a buffer from a place on.
use mathlib.Core.Path.{◌≡◌, sym, ap, ap₂, subst, ◌∙◌}
use mathlib.Core.List.{List, [], ◌++◌, append-nil}
use Prim.Native.Nat.{ℕ, ◌+◌, ◌-◌, ◌*◌, ◌≤◌}
use native.Mathlib.Omega.{arith}
use lib.ListN.{length, take, drop, length-drop, drop_of_length-le}
use lib.Seq.{drop-drop, take-length}
use Rattle.std.proofs.Common.{Result, Ok, Err}
use Rattle.refusals.specs.declared.Refusal.{Refusal}
use Rattle.phrases.specs.Handed.{Writes}
use Rattle.lines.specs.Answer.{WriteAnswer}
use Rattle.lines.proofs.Answering.{text_within}
use Rattle.answers.specs.Room.{TextPut}

-- the part of a buffer from a place on
abbrev pub rest : List ℕ → ℕ → List ℕ
rest before at = take (length before - at) (drop at before)

module _ (b before : List ℕ) (at : ℕ) (room : at + (24 + 6 * length b) ≤ length before) where
  all_of_it : rest before at ≡ drop at before
  all_of_it = ap (λ (n : ℕ). take n (drop at before)) (sym (length-drop at before)) ∙ take-length (drop at before)

  -- there is room, so that it is not refused
  pub never_refused : {A : Type 0} {after : List ℕ} {x : Result ℕ Refusal} {r : Refusal} → WriteAnswer b (rest before at) after x → x ≡ Err r → A
  never_refused {after = after} {r = r} w is = go (subst (WriteAnswer b (rest before at) after) is w)
    where
      go : {A : Type 0} → WriteAnswer b (rest before at) after (Err r) → A
      go (Writes.no_room t h _ _) = absurd (omega (arith, text_within t, ap length all_of_it, length-drop at before))

  pub fits_there : {after : List ℕ} {x : Result ℕ Refusal} {len : ℕ} → WriteAnswer b (rest before at) after x → x ≡ Ok len → at + len ≤ length before
  fits_there {after} {len = len} w is = go (subst (WriteAnswer b (rest before at) after) is w)
    where
      go : WriteAnswer b (rest before at) after (Ok len) → at + len ≤ length before
      go (Writes.written _ _ h _) = omega (arith, ap length all_of_it, length-drop at before)

  pub put_there :
      {after : List ℕ} {x : Result ℕ Refusal} {len : ℕ} → WriteAnswer b (rest before at) after x → x ≡ Ok len
      → TextPut b before at (take at before ++ (after ++ drop (length before - at) (drop at before))) (at + len)
  put_there {after} {len = len} w is = go (subst (WriteAnswer b (rest before at) after) is w)
    where
      go : WriteAnswer b (rest before at) after (Ok len) → TextPut b before at (take at before ++ (after ++ drop (length before - at) (drop at before))) (at + len)
      go (Writes.written {text = text} t long h e) = record {
        text = text;
        is = t;
        written = record {
          holds = ap₂ (λ (x y : List ℕ). take at before ++ (x ++ y)) (e ∙ ap (λ (y : List ℕ). text ++ y) left) nothing ∙ ap (λ (x : List ℕ). take at before ++ x) (append-nil _);
          next = ap (λ (n : ℕ). at + n) long;
        };
      }
        where
          left : drop len (rest before at) ≡ drop (at + length text) before
          left = ap₂ drop long all_of_it ∙ drop-drop (length text) at before

          nothing : drop (length before - at) (drop at before) ≡ []
          nothing = drop_of_length-le (drop at before) {i = length before - at} (omega (arith, length-drop at before))

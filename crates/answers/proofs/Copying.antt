-- The texts, made aside, are copied to where they were asked for, if they have room.
use mathlib.Core.Path.{◌≡◌, refl, sym, ap, ◌∙◌}
use mathlib.Core.List.{List, ◌++◌}
use Prim.Native.Nat.{ℕ, ◌<◌, ◌≤◌}
use native.Mathlib.Omega.{arith}
use lib.ListN.{length, take, drop}
use lib.Seq.{length-take-le}
use Rattle.std.proofs.Common.{Ok, Err}
use Rattle.refusals.specs.declared.Refusal.TheVariants.{Room}
use Rattle.answers.specs.declared.Answers.{Answers}
use Rattle.answers.specs.Answer.{all_texts, RunAnswer, no_room, written}
use Rattle.answers.specs.Room.{TextsAt}

module _ {b text : List ℕ} {x : Answers} (at : TextsAt b text x) where
  pub texts_long : length (take x.bytes text) ≡ x.bytes
  texts_long = length-take-le x.bytes text at.within

  long : x.bytes ≡ length (all_texts at.texts)
  long = sym texts_long ∙ ap length at.front

  pub no_room_for : (before : List ℕ) → length before < x.bytes → RunAnswer b before before (Err Room)
  no_room_for before h = no_room at.answers (omega (arith, long)) refl refl

  pub copied : (before : List ℕ) → x.bytes ≤ length before → {there : List ℕ} → there ≡ take x.bytes text → RunAnswer b before (there ++ drop x.bytes before) (Ok x)
  copied before h is = written at.answers at.tables long h (ap (λ (l : List ℕ). l ++ drop x.bytes before) (is ∙ at.front))

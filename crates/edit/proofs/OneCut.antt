-- Any two answers of a cut to one input are equal, in the answer and in every byte.
use Rattle.std.specs.Prelude.{Some, Err, Ok, Result}
use mathlib.Core.Path.{◌≡◌, sym, subst, ap, ◌∙◌}
use mathlib.Core.List.{List}
use Prim.Native.Nat.{ℕ, ◌*◌, ◌≤◌}
use native.Mathlib.Omega.{arith}
use lib.ListN.{length}
use Rattle.refusals.specs.declared.Refusal.{Refusal}
use Rattle.refusals.specs.Numbers.{at}
use Rattle.refusals.proofs.Known.{same_refusal}
use Rattle.selections.specs.Selection.{named, Refused9}
use Rattle.laws.specs.Least.{LeastNumber}
use Rattle.laws.proofs.Least.{number_unique}
use Rattle.model.specs.Cut.{new_number}
use Rattle.table.specs.Events.{events_of}
use Rattle.table.specs.Test.{TestAnswer}
use Rattle.table.proofs.Unique.{test_one}
use Rattle.edit.specs.Cut.{Lacking, Selected, Whole, Decides, bad_table, bad_selection, lacking, no_room, good, bytes_after, CutAnswer}
use Rattle.edit.proofs.OneAppend.{refused_inside}

sound_inside : {m n : ℕ} → ◌≡◌ {A = Result ℕ Refusal} (Ok m) (Ok n) → m ≡ n
sound_inside e = cc

some_inside : {m n : ℕ} → Some m ≡ Some n → m ≡ n
some_inside e = cc

module _ {b : List ℕ} where
  not_sound : {A : Type 0} {n : ℕ} {r : Refusal} → TestAnswer b (Ok n) → TestAnswer b (Err r) → A
  not_sound x y =
      let e = test_one x y in
      absurd (let z : ◌≡◌ {A = ℕ} 0 1 = cc in omega arith)

  one_count : {m n : ℕ} → TestAnswer b (Ok m) → TestAnswer b (Ok n) → m ≡ n
  one_count x y = sound_inside (test_one x y)

module _ {b s : List ℕ} where
  not_selected : {A : Type 0} {m n : ℕ} → TestAnswer b (Ok m) → Refused9 s m → Selected b s n → A
  not_selected x z fine = absurd (fine.not_9 (subst (Refused9 s) (one_count x fine.sound) z))

  not_whole : {A : Type 0} {m n : ℕ} → LeastNumber (Lacking (named s) (events_of b)) (Some m) → Whole b s n → A
  not_whole x w =
      let e = number_unique x w.not_10 in
      absurd (let z : ◌≡◌ {A = ℕ} 0 1 = cc in omega arith)

  short :
      {A : Type 0} {m n : ℕ} (before : List ℕ) → Whole b s m → Whole b s n → ¬ (16 * new_number (named s) m ≤ length before) → 16 * new_number (named s) n ≤ length before → A
  short before v w tight l =
      let e = ap (new_number (named s)) (one_count v.selected.sound w.selected.sound) in
      absurd (tight (omega arith))

  module _ {before : List ℕ} where
    decides_one : {x y : Result ℕ Refusal} → Decides b s before x → Decides b s before y → x ≡ y
    decides_one (bad_table x) (bad_table y) = ap Err (refused_inside (test_one x y))
    decides_one (bad_table x) (bad_selection y _ _) = not_sound y x
    decides_one (bad_table x) (lacking y _ _) = not_sound y.sound x
    decides_one (bad_table x) (no_room y _ _) = not_sound y.selected.sound x
    decides_one (bad_table x) (good y _) = not_sound y.selected.sound x
    decides_one (bad_selection x _ _) (bad_table y) = not_sound x y
    decides_one (bad_selection _ _ e) (bad_selection _ _ h) = ap Err (same_refusal e h)
    decides_one (bad_selection x z _) (lacking y _ _) = not_selected x z y
    decides_one (bad_selection x z _) (no_room y _ _) = not_selected x z y.selected
    decides_one (bad_selection x z _) (good y _) = not_selected x z y.selected
    decides_one (lacking x _ _) (bad_table y) = not_sound x.sound y
    decides_one (lacking x _ _) (bad_selection y z _) = not_selected y z x
    decides_one (lacking _ x e) (lacking _ y h) = ap Err (same_refusal e (h ∙ ap (at 10) (some_inside (number_unique y x))))
    decides_one (lacking _ x _) (no_room y _ _) = not_whole x y
    decides_one (lacking _ x _) (good y _) = not_whole x y
    decides_one (no_room x _ _) (bad_table y) = not_sound x.selected.sound y
    decides_one (no_room x _ _) (bad_selection y z _) = not_selected y z x.selected
    decides_one (no_room x _ _) (lacking _ y _) = not_whole y x
    decides_one (no_room _ _ e) (no_room _ _ h) = ap Err (same_refusal e h)
    decides_one (no_room x tight _) (good y l) = short before x y tight l
    decides_one (good x _) (bad_table y) = not_sound x.selected.sound y
    decides_one (good x _) (bad_selection y z _) = not_selected y z x.selected
    decides_one (good x _) (lacking _ y _) = not_whole y x
    decides_one (good x l) (no_room y tight _) = short before y x tight l
    decides_one (good x _) (good y _) = ap (λ (n : ℕ). Ok (new_number (named s) n)) (one_count x.selected.sound y.selected.sound)

    pub cut_one :
        {after after' : List ℕ} {x y : Result ℕ Refusal} → CutAnswer b s before after x → CutAnswer b s before after' y → (x ≡ y) × (after ≡ after')
    cut_one p q =
        let same = decides_one p.decided q.decided in
        (same, p.bytes ∙ (ap (bytes_after b s before) same ∙ sym q.bytes))

-- Any two answers of an append to one input are equal, in the answer and in every byte.
use Rattle.std.specs.Prelude.{Err, Ok, Result}
use mathlib.Core.Path.{◌≡◌, refl, sym, subst, ap, ◌∙◌}
use mathlib.Core.List.{List}
use Prim.Native.Nat.{ℕ, ◌+◌}
use native.Mathlib.Omega.{arith}
use Rattle.events.specs.declared.Record.{Record}
use Rattle.refusals.specs.declared.Fault.{Fault}
use Rattle.refusals.specs.declared.Refusal.{Refusal}
use Rattle.refusals.specs.Numbers.{of_record}
use Rattle.refusals.proofs.Known.{same_refusal}
use Rattle.table.specs.Test.{RecordsAnswer}
use Rattle.table.proofs.Unique.{records_one, fault_one, no_fault}
use Rattle.edit.specs.Append.{Decides, not_in_use, bad_record, full, no_room, bad_new, good, bytes_after, AppendAnswer, Appends, nothing, one_more}

-- records are sound or refused, not both
pub sound_or_refused : {A : Type 0} {b : List ℕ} {n : ℕ} {r : Refusal} → RecordsAnswer b (Ok n) → RecordsAnswer b (Err r) → A
sound_or_refused x y =
    let e = records_one x y in
    absurd (let z : ◌≡◌ {A = ℕ} 0 1 = cc in omega arith)

pub refused_inside : {r s : Refusal} → ◌≡◌ {A = Result ℕ Refusal} (Err r) (Err s) → r ≡ s
refused_inside e = cc

module _ {b : List ℕ} {used : ℕ} {new : Record} where
  decides_one : {x y : Result ℕ Refusal} → Decides b used new x → Decides b used new y → x ≡ y
  decides_one (not_in_use _ e) (not_in_use _ h) = ap Err (same_refusal e h)
  decides_one (not_in_use u _) (bad_record v _) = absurd (u v)
  decides_one (not_in_use u _) (full v _ _) = absurd (u v.in_use)
  decides_one (not_in_use u _) (no_room v _ _ _) = absurd (u v.in_use)
  decides_one (not_in_use u _) (bad_new v _ _) = absurd (u v.sound_use.in_use)
  decides_one (not_in_use u _) (good v _) = absurd (u v.sound_use.in_use)
  decides_one (bad_record v _) (not_in_use u _) = absurd (u v)
  decides_one (bad_record _ x) (bad_record _ y) = ap Err (refused_inside (records_one x y))
  decides_one (bad_record _ x) (full v _ _) = sound_or_refused v.sound x
  decides_one (bad_record _ x) (no_room v _ _ _) = sound_or_refused v.sound x
  decides_one (bad_record _ x) (bad_new v _ _) = sound_or_refused v.sound_use.sound x
  decides_one (bad_record _ x) (good v _) = sound_or_refused v.sound_use.sound x
  decides_one (full v _ _) (not_in_use u _) = absurd (u v.in_use)
  decides_one (full v _ _) (bad_record _ x) = sound_or_refused v.sound x
  decides_one (full _ _ e) (full _ _ h) = ap Err (same_refusal e h)
  decides_one (full _ is _) (no_room _ not _ _) = absurd (not is)
  decides_one (full _ is _) (bad_new v _ _) = absurd (v.not_full is)
  decides_one (full _ is _) (good v _) = absurd (v.not_full is)
  decides_one (no_room v _ _ _) (not_in_use u _) = absurd (u v.in_use)
  decides_one (no_room v _ _ _) (bad_record _ x) = sound_or_refused v.sound x
  decides_one (no_room _ not _ _) (full _ is _) = absurd (not is)
  decides_one (no_room _ _ _ e) (no_room _ _ _ h) = ap Err (same_refusal e h)
  decides_one (no_room _ _ short _) (bad_new v _ _) = absurd (short v.room)
  decides_one (no_room _ _ short _) (good v _) = absurd (short v.room)
  decides_one (bad_new v _ _) (not_in_use u _) = absurd (u v.sound_use.in_use)
  decides_one (bad_new v _ _) (bad_record _ x) = sound_or_refused v.sound_use.sound x
  decides_one (bad_new v _ _) (full _ is _) = absurd (v.not_full is)
  decides_one (bad_new v _ _) (no_room _ _ short _) = absurd (short v.room)
  decides_one (bad_new _ x e) (bad_new _ y h) = ap Err (same_refusal e (h ∙ ap (λ (f : Fault). of_record f used) (fault_one y x)))
  decides_one (bad_new _ x _) (good _ passes) = no_fault passes x
  decides_one (good v _) (not_in_use u _) = absurd (u v.sound_use.in_use)
  decides_one (good v _) (bad_record _ x) = sound_or_refused v.sound_use.sound x
  decides_one (good v _) (full _ is _) = absurd (v.not_full is)
  decides_one (good v _) (no_room _ _ short _) = absurd (short v.room)
  decides_one (good _ passes) (bad_new _ x _) = no_fault passes x
  decides_one (good _ _) (good _ _) = refl

  pub append_one :
      {after after' : List ℕ} {x y : Result ℕ Refusal} → AppendAnswer b used new after x → AppendAnswer b used new after' y → (x ≡ y) × (after ≡ after')
  append_one p q =
      let same = decides_one p.decided q.decided in
      (same, p.bytes ∙ (ap (bytes_after b used new) same ∙ sym q.bytes))

-- and so any two runs of appends leave the same bytes
pub appends_one : {at : ℕ → Record} {b x y : List ℕ} {n : ℕ} → Appends at b n x → Appends at b n y → x ≡ y
appends_one nothing nothing = refl
appends_one {at} (one_more {n} p a) (one_more {y = z} q c) =
    (append_one a (subst (λ (w : List ℕ). AppendAnswer w n (at n) z (Ok (n + 1))) (sym (appends_one p q)) c)).1

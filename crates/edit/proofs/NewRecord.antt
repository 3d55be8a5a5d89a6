-- What the code of an append relies on: the records in use pass, and the new record's test is exact.
use Rattle.refusals.specs.declared.Refusal.{Refusal}
use Rattle.std.specs.Prelude.{Err, Ok, Result}
use mathlib.Core.Path.{◌≡◌, refl, sym, subst, ap, ◌∙◌}
use mathlib.Core.Bool.{Bool, true, false}
use mathlib.Core.List.{List}
use Prim.Native.Nat.{ℕ, ◌*◌, ◌<◌, ◌≤◌}
use native.Mathlib.Omega.{arith}
use lib.ListN.{length}
use Rattle.events.specs.declared.Record.{Record}
use Rattle.refusals.specs.declared.Fault.{Fault}
use Rattle.refusals.specs.declared.Fault.TheVariants.{Mark}
use Rattle.record.specs.Form.{decided_by, decode, encode}
use Rattle.table.specs.Test.{FaultAt, by_bytes, by_6, by_7, by_8, Passes, RecordsAnswer}
use Rattle.table.proofs.Front.{front_count}
use Rattle.table.proofs.NewRecord.{new_part}
use Rattle.table.proofs.WellFormed.{records_pass}
use Rattle.edit.specs.Append.{InUse, SoundUse, Ready, Decides, not_in_use, bad_record, full, no_room, bad_new, good, front, extended}

module _ {b : List ℕ} {used : ℕ} where
  pub sound_use : {n : ℕ} → InUse b used → RecordsAnswer (front b used) (Ok n) → SoundUse b used
  sound_use {n} held x =
      let same = (records_pass (front b used) n x).count ∙ front_count b used held.held in
      record { in_use = held; sound = subst (λ (k : ℕ). RecordsAnswer (front b used) (Ok k)) same x }

  pub in_use_pass : SoundUse b used → (m : ℕ) → m < used → Passes (front b used) m
  in_use_pass s m h =
      (records_pass (front b used) used s.sound).each m (omega (arith, front_count b used s.in_use.held))

  pub count_ready : {new : Record} {a : Result ℕ Refusal} {n : ℕ} → Decides b used new a → a ≡ Ok n → Ready b used
  count_ready (not_in_use _ _) e = absurd (let z : ◌≡◌ {A = ℕ} 0 1 = cc in omega arith)
  count_ready (bad_record _ _) e = absurd (let z : ◌≡◌ {A = ℕ} 0 1 = cc in omega arith)
  count_ready (full _ _ _) e = absurd (let z : ◌≡◌ {A = ℕ} 0 1 = cc in omega arith)
  count_ready (no_room _ _ _ _) e = absurd (let z : ◌≡◌ {A = ℕ} 0 1 = cc in omega arith)
  count_ready (bad_new _ _ _) e = absurd (let z : ◌≡◌ {A = ℕ} 0 1 = cc in omega arith)
  count_ready (good ready _) e = ready

-- "by 3 to 8": the bytes that are read have the mark, so 2 is never given
marked_first : (k w s t l : Bool) (i : ℕ) (r : Record) → ¬ (decided_by true k w s t l i r ≡ Err Mark)
unfolding decided_by
marked_first true true true true true i r e = let z : ◌≡◌ {A = ℕ} 0 1 = cc in omega arith
marked_first true true true true false i r e = let z : ◌≡◌ {A = ℕ} 0 1 = cc in omega arith
marked_first true true true false l i r e = let z : ◌≡◌ {A = ℕ} 0 1 = cc in omega arith
marked_first true true false t l i r e = let z : ◌≡◌ {A = ℕ} 0 1 = cc in omega arith
marked_first true false s t l i r e = let z : ◌≡◌ {A = ℕ} 0 1 = cc in omega arith
marked_first false w s t l i r e = let z : ◌≡◌ {A = ℕ} 0 1 = cc in omega arith

encoded_marked : (r : Record) → ¬ (decode (encode r) ≡ Err Mark)
unfolding decode encode
encoded_marked r = marked_first _ _ _ _ _ _ _

module _ (b : List ℕ) (used : ℕ) (new : Record) (held : 16 * used ≤ length b) where
  not_2 : {f : Fault} → FaultAt (extended b used new) used f → ¬ (f ≡ Mark)
  not_2 (by_bytes x) e = encoded_marked new (ap decode (sym (new_part b used new held)) ∙ (x ∙ ap Err e))
  not_2 (by_6 _ _) e = let z : ◌≡◌ {A = ℕ} 0 1 = cc in omega arith
  not_2 (by_7 _ _ _) e = let z : ◌≡◌ {A = ℕ} 0 1 = cc in omega arith
  not_2 (by_8 _ _ _ _) e = let z : ◌≡◌ {A = ℕ} 0 1 = cc in omega arith

  pub never_2 : ¬ FaultAt (extended b used new) used Mark
  never_2 x = not_2 x refl

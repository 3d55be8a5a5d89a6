-- Any two answers that document 01 allows for one table are equal.
use Rattle.refusals.specs.declared.Refusal.{Refusal}
use Rattle.std.specs.Prelude.{Err, Result}
use mathlib.Core.Path.{◌≡◌, refl, subst, ap, ap₂}
use mathlib.Core.List.{List}
use Prim.Native.Nat.{ℕ, ◌<◌}
use native.Mathlib.Omega.{arith}
use native.Mathlib.Decide.{dec_lt}
use Rattle.refusals.specs.declared.Fault.{Fault}
use Rattle.refusals.specs.declared.Told.{Told}
use Rattle.refusals.specs.Numbers.{of_record}
use Rattle.refusals.proofs.Known.{same_refusal, told_one}
use Rattle.record.specs.Form.{decode, part}
use Rattle.table.specs.Events.{count_of}
use Rattle.table.specs.Test.{Decodes, FaultAt, by_bytes, by_6, by_7, by_8, Passes, CheckAnswer, passes, faulty, FirstFault, first_fault, RecordsAnswer, refused, sound, TestAnswer, wrong_length, records}

-- ---- one record

module _ {b : List ℕ} {n : ℕ} where
  not_both : {A : Type 0} {f : Fault} → decode (part b n) ≡ Err f → Decodes b n → A
  not_both e d =
      let g = d.read in
      absurd (let z : ◌≡◌ {A = ℕ} 0 1 = cc in omega arith)

  pub fault_one : {f g : Fault} → FaultAt b n f → FaultAt b n g → f ≡ g
  fault_one (by_bytes e) (by_bytes h) = cc
  fault_one (by_bytes e) (by_6 d _) = not_both e d
  fault_one (by_bytes e) (by_7 d _ _) = not_both e d
  fault_one (by_bytes e) (by_8 d _ _ _) = not_both e d
  fault_one (by_6 d _) (by_bytes e) = not_both e d
  fault_one (by_6 _ _) (by_6 _ _) = refl
  fault_one (by_6 _ x) (by_7 _ never _) = absurd (never x)
  fault_one (by_6 _ x) (by_8 _ never _ _) = absurd (never x)
  fault_one (by_7 d _ _) (by_bytes e) = not_both e d
  fault_one (by_7 _ never _) (by_6 _ x) = absurd (never x)
  fault_one (by_7 _ _ _) (by_7 _ _ _) = refl
  fault_one (by_7 _ _ x) (by_8 _ _ never _) = absurd (never x)
  fault_one (by_8 d _ _ _) (by_bytes e) = not_both e d
  fault_one (by_8 _ never _ _) (by_6 _ x) = absurd (never x)
  fault_one (by_8 _ _ never _) (by_7 _ _ x) = absurd (never x)
  fault_one (by_8 _ _ _ _) (by_8 _ _ _ _) = refl

  pub no_fault : {A : Type 0} {f : Fault} → Passes b n → FaultAt b n f → A
  no_fault p (by_bytes e) = not_both e p.decodes
  no_fault p (by_6 _ x) = absurd (p.not_6 x)
  no_fault p (by_7 _ _ x) = absurd (p.not_7 x)
  no_fault p (by_8 _ _ _ x) = absurd (p.not_8 x)

  pub check_one : {x y : Result (Unit {0}) Fault} → CheckAnswer b n x → CheckAnswer b n y → x ≡ y
  check_one (passes p) (passes q) = refl
  check_one (passes p) (faulty f) = no_fault p f
  check_one (faulty f) (passes p) = no_fault p f
  check_one (faulty f) (faulty g) = ap Err (fault_one f g)

-- ---- a table

module _ {b : List ℕ} where
  -- the first faults are of one record
  one_place :
      {n m : ℕ} {f g : Fault} → ((k : ℕ) → k < n → Passes b k) → FaultAt b n f → ((k : ℕ) → k < m → Passes b k) → FaultAt b m g → n ≡ m
  one_place {n} {m} before x before' y = go (dec_lt n m) (dec_lt m n)
    where
      go : Dec (n < m) → Dec (m < n) → n ≡ m
      go (yes h) k = no_fault (before' n h) x
      go (no h) (yes k) = no_fault (before m k) y
      go (no h) (no k) = omega arith

  first_one : {u v : Told} → FirstFault b u → FirstFault b v → u ≡ v
  first_one (first_fault {f = f} _ before x) (first_fault _ before' y) =
      let same = one_place before x before' y in
      ap₂ of_record (fault_one (subst (λ (k : ℕ). FaultAt b k f) same x) y) same

  all_pass : {A : Type 0} {u : Told} → FirstFault b u → ((m : ℕ) → m < count_of b → Passes b m) → A
  all_pass (first_fault {n = n} h _ x) all = no_fault (all n h) x

  pub records_one : {x y : Result ℕ Refusal} → RecordsAnswer b x → RecordsAnswer b y → x ≡ y
  records_one (refused {r = r} x) (refused {r = s} y) = ap Err (told_one r s (first_one x y))
  records_one (refused x) (sound all) = all_pass x all
  records_one (sound all) (refused x) = all_pass x all
  records_one (sound _) (sound _) = refl

  pub test_one : {x y : Result ℕ Refusal} → TestAnswer b x → TestAnswer b y → x ≡ y
  test_one (wrong_length _ e) (wrong_length _ h) = ap Err (same_refusal e h)
  test_one (wrong_length wrong _) (records right _) = absurd (wrong right)
  test_one (records right _) (wrong_length wrong _) = absurd (wrong right)
  test_one (records _ x) (records _ y) = records_one x y

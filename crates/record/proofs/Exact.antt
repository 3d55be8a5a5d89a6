-- Sixteen bytes are read as a record, or refused with 2 to 5 and the byte at fault, exactly as the documents say.
use Rattle.events.specs.declared.Record.{Record}
use Rattle.std.specs.Prelude.{Some, Err, Result}
use mathlib.Core.Path.{◌≡◌, refl, sym, ap, ◌∙◌}
use mathlib.Core.Bool.{Bool, true, false}
use mathlib.Core.List.{List}
use Prim.Native.Nat.{ℕ, ◌<◌, ◌≤◌}
use native.Mathlib.Omega.{arith}
use lib.Dec.{leb}
use Rattle.laws.specs.Says.{Says}
use Rattle.laws.specs.Least.{Least, LeastNumber}
use Rattle.laws.proofs.Least.{least_one, number_one}
use Rattle.laws.proofs.Says.{says_yes, says_no, says_T, says_le, says_one}
use Rattle.refusals.specs.declared.Fault.{Fault}
use Rattle.refusals.specs.declared.Fault.TheVariants as fault
use Rattle.refusals.specs.Numbers.{fault_byte}
use Rattle.record.specs.Form.{kind_byte, order_byte, thread_byte, location_byte, marked, in_row, rested, least_restless, record_from, decided_by, decode}
use Rattle.record.specs.Refused.{Marked, InRow, Rested, AtFault, ReadAs, good, bad_2, bad_3_kind, bad_3_order, bad_4, bad_5_thread, bad_5_location}
use Rattle.record.proofs.AtFault.{restless, least_at_fault}
use Rattle.record.proofs.BytesBack.{kind_below}
use Rattle.record.proofs.Tests.{says_marked, says_rested}

-- a test by the fact that it tells
pub is_true : {t : Bool} {P : Type 0} → Says t P → P → t ≡ true
is_true s p = says_one s (says_yes p)

is_false : {t : Bool} {P : Type 0} → Says t P → ¬ P → t ≡ false
is_false s n = says_one s (says_no n)

module _ (b : List ℕ) where
  abbrev Kind : Type 0
  Kind = kind_byte b ≤ 3

  abbrev Thread : Type 0
  Thread = thread_byte b ≤ 15

  abbrev Location : Type 0
  Location = location_byte b ≤ 31

  -- a kind above 3 has no row
  row_kind : InRow b → Kind
  row_kind row = omega (arith, kind_below (kind_byte b) (order_byte b) row)

  says_kind : Says (leb (kind_byte b) 3) Kind
  says_kind = says_le (kind_byte b) 3

  says_row : Says (in_row (kind_byte b) (order_byte b)) (InRow b)
  says_row = says_T (in_row (kind_byte b) (order_byte b))

  says_thread : Says (leb (thread_byte b) 15) Thread
  says_thread = says_le (thread_byte b) 15

  says_location : Says (leb (location_byte b) 31) Location
  says_location = says_le (location_byte b) 31

  decided :
      (m k w s t l : Bool) → Says m (Marked b) → Says k Kind → Says w (InRow b) → Says s (Rested b) → Says t Thread → Says l Location
      → (s ≡ false → LeastNumber (AtFault b) (Some (least_restless b))) → ReadAs b (decided_by m k w s t l (least_restless b) (record_from b))
  unfolding decided_by
  decided false k w s t l M K W S H L F = bad_2 (λ m. M.from m)
  decided true false w s t l M K W S H L F = bad_3_kind (M.to tt) (λ w. K.from (row_kind w)) (λ k. K.from k)
  decided true true false s t l M K W S H L F = bad_3_order (M.to tt) (λ w. W.from w) (K.to tt)
  decided true true true false t l M K W S H L F = bad_4 (M.to tt) (W.to tt) (λ s. S.from s) (F refl)
  decided true true true true false l M K W S H L F =
      bad_5_thread (M.to tt) (W.to tt) (S.to tt) (λ g. H.from g.thread) (λ t. H.from t)
  decided true true true true true false M K W S H L F =
      bad_5_location (M.to tt) (W.to tt) (S.to tt) (λ g. L.from g.location) (H.to tt)
  decided true true true true true true M K W S H L F =
      good (M.to tt) (W.to tt) (S.to tt) (record { thread = H.to tt; location = L.to tt })

  -- what the tests say decides
  pub decided_so :
      {m k w s t l : Bool} → marked b ≡ m → leb (kind_byte b) 3 ≡ k → in_row (kind_byte b) (order_byte b) ≡ w → rested b ≡ s → leb (thread_byte b) 15 ≡ t → leb (location_byte b) 31 ≡ l
      → decode b ≡ decided_by m k w s t l (least_restless b) (record_from b)
  unfolding decode
  decided_so m k w s t l = λ i. decided_by (m i) (k i) (w i) (s i) (t i) (l i) (least_restless b) (record_from b)

  pub read_as : ReadAs b (decode b)
  unfolding decode
  read_as = decided _ _ _ _ _ _ (says_marked b) says_kind says_row (says_rested b) says_thread says_location (least_at_fault b)

  -- ---- one answer, and one byte

  one_least : {i : ℕ} → ¬ Rested b → LeastNumber (AtFault b) (Some i) → least_restless b ≡ i
  one_least n first =
      let same = least_one number_one (least_at_fault b (is_false (says_rested b) n)) first in
      cc

  pub read_is : {d : Result Record Fault} → ReadAs b d → decode b ≡ d
  unfolding decided_by
  read_is (good m w s g) =
      decided_so (is_true (says_marked b) m) (is_true says_kind (row_kind w)) (is_true says_row w) (is_true (says_rested b) s) (is_true says_thread g.thread) (is_true says_location g.location)
  read_is (bad_2 m) = decided_so (is_false (says_marked b) m) refl refl refl refl refl
  read_is (bad_3_kind m w k) = decided_so (is_true (says_marked b) m) (is_false says_kind k) refl refl refl refl
  read_is (bad_3_order m w k) = decided_so (is_true (says_marked b) m) (is_true says_kind k) (is_false says_row w) refl refl refl
  read_is (bad_4 m w s first) =
      decided_so (is_true (says_marked b) m) (is_true says_kind (row_kind w)) (is_true says_row w) (is_false (says_rested b) s) refl refl
      ∙ ap (λ (i : ℕ). Err (fault.Rest i)) (one_least s first)
  read_is (bad_5_thread m w s g t) =
      decided_so (is_true (says_marked b) m) (is_true says_kind (row_kind w)) (is_true says_row w) (is_true (says_rested b) s) (is_false says_thread t) refl
  read_is (bad_5_location m w s g t) =
      decided_so (is_true (says_marked b) m) (is_true says_kind (row_kind w)) (is_true says_row w) (is_true (says_rested b) s) (is_true says_thread t)
      (is_false says_location (λ l. g (record { thread = t; location = l })))

  pub read_one : {x y : Result Record Fault} → ReadAs b x → ReadAs b y → x ≡ y
  read_one p q = sym (read_is p) ∙ read_is q

  -- the byte that is named is one of the sixteen
  pub named_inside : {f : Fault} → ReadAs b (Err f) → fault_byte f < 16
  named_inside (bad_2 _) = omega arith
  named_inside (bad_3_kind _ _ _) = omega arith
  named_inside (bad_3_order _ _ _) = omega arith
  named_inside (bad_4 _ _ _ (Least.least at _)) = (restless b at).to
  named_inside (bad_5_thread _ _ _ _ _) = omega arith
  named_inside (bad_5_location _ _ _ _ _) = omega arith

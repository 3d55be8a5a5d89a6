-- What the code computes for a record is document 01's answer: exact, whichever list of bytes the record is said to stand in.
use Rattle.std.specs.Prelude.{Err, Ok, Result}
use mathlib.Core.Path.{◌≡◌, refl, sym, subst, ap, ◌∙◌}
use mathlib.Core.Bool.{Bool, true, false}
use mathlib.Core.List.{List}
use Prim.Native.Nat.{ℕ, ◌<◌, ◌≤◌}
use native.Mathlib.Omega.{arith}
use Rattle.laws.specs.Says.{Says}
use Rattle.events.specs.declared.Record.{Record}
use Rattle.refusals.specs.declared.Fault.{Fault}
use Rattle.refusals.specs.Numbers.{fault_byte}
use Rattle.record.specs.Form.{decode, part}
use Rattle.record.specs.Refused.{ReadAs}
use Rattle.record.proofs.Exact as bytes
use Rattle.model.specs.WellFormed.{Refused6, Refused7, Refused8}
use Rattle.table.specs.Events.{record_of, events_of}
use Rattle.table.specs.Test.{Decodes, FaultAt, by_bytes, by_6, by_7, by_8, Passes, CheckAnswer, passes, faulty}
use Rattle.table.specs.Computed.{judged, checked}
use Rattle.table.proofs.Unique.{check_one}
use Rattle.table.proofs.Telling.{says_6, says_7, says_8}

-- what is read as a record is the record of its number
pub at_decoded : (b : List ℕ) (n : ℕ) {r : Record} → decode (part b n) ≡ Ok r → (events_of b).at n ≡ r
unfolding events_of
at_decoded b n e = ap record_of e

pub decoded_at : (b : List ℕ) (n : ℕ) → Decodes b n → decode (part b n) ≡ Ok ((events_of b).at n)
decoded_at b n d = d.read ∙ ap Ok (sym (at_decoded b n d.read))

pub passes_of : {b : List ℕ} {n : ℕ} → CheckAnswer b n (Ok tt) → Passes b n
passes_of (passes p) = p

pub fault_of : {b : List ℕ} {n : ℕ} {f : Fault} → CheckAnswer b n (Err f) → FaultAt b n f
fault_of (faulty x) = x

-- the byte that is named is one of the record's sixteen
pub named_inside : {b : List ℕ} {n : ℕ} {f : Fault} → FaultAt b n f → fault_byte f < 16
named_inside {b} {n} (by_bytes e) = bytes.named_inside (part b n) (subst (ReadAs (part b n)) e (bytes.read_as (part b n)))
named_inside (by_6 _ _) = omega arith
named_inside (by_7 _ _ _) = omega arith
named_inside (by_8 _ _ _ _) = omega arith

-- the same bytes are the same record, and decode alike
pub alike_at : (b b' : List ℕ) (n : ℕ) → part b n ≡ part b' n → (events_of b).at n ≡ (events_of b').at n
unfolding events_of
alike_at b b' n e = ap (λ (p : List ℕ). record_of (decode p)) e

pub decodes_alike : {b b' : List ℕ} {n : ℕ} → part b n ≡ part b' n → Decodes b n → Decodes b' n
decodes_alike e d = record { value = d.value; read = ap decode (sym e) ∙ d.read }

judged_exact :
    (b : List ℕ) (n : ℕ) (p s w : Bool) → Says p (Refused6 (events_of b) n) → Says s (Refused7 (events_of b) n) → Says w (Refused8 (events_of b) n) → Decodes b n → CheckAnswer b n (judged p s w)
judged_exact b n true s w P S W d = faulty (by_6 d (P.to tt))
judged_exact b n false true w P S W d = faulty (by_7 d (λ x. P.from x) (S.to tt))
judged_exact b n false false true P S W d = faulty (by_8 d (λ x. P.from x) (λ x. S.from x) (W.to tt))
judged_exact b n false false false P S W d =
    passes (record { decodes = d; not_6 = λ x. P.from x; not_7 = λ x. S.from x; not_8 = λ x. W.from x })

-- b holds the records before number n as b' does, and b' has record n too
module _ (b b' : List ℕ) (n : ℕ) (alike : (m : ℕ) → m < n → part b m ≡ part b' m) where
  before : (m : ℕ) → m < n → (events_of b).at m ≡ (events_of b').at m
  before m h = alike_at b b' m (alike m h)

  pub check_exact : CheckAnswer b' n (checked (events_of b).at n (decode (part b' n)))
  check_exact = go (decode (part b' n)) refl
    where
      go : (d : Result Record Fault) → decode (part b' n) ≡ d → CheckAnswer b' n (checked (events_of b).at n d)
      go (Err f) e = faulty (by_bytes e)
      go (Ok r) e =
          let t = events_of b' in
          rw (← at_decoded b' n e)
          (judged_exact b' n _ _ _ (says_6 t n (events_of b).at before) (says_7 t n (events_of b).at before) (says_8 t n (events_of b).at before) (record { value = r; read = e }))

-- whether a record passes depends on it and the records before it alone
pub passes_alike : (b b' : List ℕ) (n : ℕ) → ((m : ℕ) → m ≤ n → part b m ≡ part b' m) → Passes b n → Passes b' n
passes_alike b b' n alike passed =
    let here = check_exact b b n (λ m h. refl) in
    let there = check_exact b b' n (λ m h. alike m (omega arith)) in
    let same = ap (λ (p : List ℕ). checked (events_of b).at n (decode p)) (sym (alike n (omega arith))) ∙ check_one here (passes passed) in
    passes_of (rw same at there)

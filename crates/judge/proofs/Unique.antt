-- Any two results that document 01 allows for one table and the same two buffers are equal.
use Rattle.std.specs.Prelude.{Result, Ok, Err}
use mathlib.Core.Path.{◌≡◌, refl, sym, ap, subst, ◌∙◌}
use mathlib.Core.List.{List}
use Prim.Native.Nat.{ℕ}
use native.Mathlib.Omega.{arith}
use Rattle.findings.specs.declared.Finding.TheVariants.{A1, A4}
use Rattle.findings.specs.Family.{found_of}
use Rattle.findings.specs.Meant.{Means, lent}
use Rattle.findings.proofs.Family.{findings_one}
use Rattle.findings.proofs.Meant.{means_one}
use Rattle.refusals.specs.declared.Refusal.{Refusal}
use Rattle.refusals.proofs.Known.{same_refusal}
use Rattle.model.specs.Findings as model
use Rattle.model.proofs.Unique.{one_report}
use Rattle.table.specs.Events.{events_of}
use Rattle.table.specs.Test.{RecordsAnswer}
use Rattle.table.proofs.Unique.{records_one}
use Rattle.judge.specs.declared.Report.{Report}
use Rattle.judge.specs.Answer.{Witnesses, no_witness, Tells, Decides, wrong_length, no_room, bad_record, judged, JudgeAnswer}

-- one answer, with the same witnesses
record SameAnswer (x y : Result Report Refusal) (v w : Witnesses) : Type 0 where
  answer : x ≡ y
  witness : v ≡ w

refused_one : {r s : Refusal} → r ≡ s → SameAnswer (Err r) (Err s) no_witness no_witness
refused_one e = record { answer = ap Err e; witness = refl }

tells_one : {b : List ℕ} {v w : Witnesses} {x y : Report} → Tells b v x → Tells b w y → SameAnswer (Ok x) (Ok y) v w
tells_one {b} {v} {w} {x} {y} p q =
    let same = one_report (events_of b) _ _ p.right q.right in
    let witness : v ≡ w = ap (λ (r : model.Report). r.witness) same in
    let verdict : x.verdict ≡ y.verdict = ap (λ (r : model.Report). r.verdict) same in
    let events : x.events ≡ y.events = p.events ∙ sym q.events in
    let findings : x.findings ≡ y.findings =
    findings_one (λ f. means_one (p.means f) (subst (λ (u : Witnesses). Means (found_of y.findings f) (u f)) (sym witness) (q.means f))) in
    record { answer = λ i. Ok (record { events = events i; findings = findings i; verdict = verdict i }); witness = witness }

-- what the test of the records says
one_fault : {b : List ℕ} {r s : Refusal} → RecordsAnswer b (Err r) → RecordsAnswer b (Err s) → r ≡ s
one_fault x y = let e = records_one x y in cc

never_both : {b : List ℕ} {r : Refusal} {n : ℕ} {A : Type 0} → RecordsAnswer b (Err r) → RecordsAnswer b (Ok n) → A
never_both x y =
    let e = records_one x y in
    absurd (let z : ◌≡◌ {A = ℕ} 0 1 = cc in omega arith)

decides_one :
    {b before₁ before₂ : List ℕ} {x y : Result Report Refusal} {v w : Witnesses} → Decides b before₁ before₂ x v → Decides b before₁ before₂ y w → SameAnswer x y v w
decides_one (wrong_length _ e) (wrong_length _ f) = refused_one (same_refusal e f)
decides_one (wrong_length n _) (no_room k _ _) = absurd (n k)
decides_one (wrong_length n _) (bad_record k _ _) = absurd (n k)
decides_one (wrong_length n _) (judged k _ _ _) = absurd (n k)
decides_one (no_room k _ _) (wrong_length n _) = absurd (n k)
decides_one (no_room _ _ e) (no_room _ _ f) = refused_one (same_refusal e f)
decides_one (no_room _ n _) (bad_record _ k _) = absurd (n k)
decides_one (no_room _ n _) (judged _ k _ _) = absurd (n k)
decides_one (bad_record k _ _) (wrong_length n _) = absurd (n k)
decides_one (bad_record _ k _) (no_room _ n _) = absurd (n k)
decides_one (bad_record _ _ x) (bad_record _ _ y) = refused_one (one_fault x y)
decides_one (bad_record _ _ x) (judged _ _ y _) = never_both x y
decides_one (judged k _ _ _) (wrong_length n _) = absurd (n k)
decides_one (judged _ k _ _) (no_room _ n _) = absurd (n k)
decides_one (judged _ _ y _) (bad_record _ _ x) = never_both x y
decides_one (judged _ _ _ p) (judged _ _ _ q) = tells_one p q

-- one result, and the same bytes in both buffers
pub record Same (x y : Result Report Refusal) (after₁ after₁' after₂ after₂' : List ℕ) : Type 0 where
  pub result : x ≡ y
  pub first : after₁ ≡ after₁'
  pub second : after₂ ≡ after₂'

pub judge_one :
    {b before₁ after₁ after₁' before₂ after₂ after₂' : List ℕ} {x y : Result Report Refusal} → JudgeAnswer b before₁ after₁ before₂ after₂ x → JudgeAnswer b before₁ after₁' before₂ after₂' y → Same x y after₁ after₁' after₂ after₂'
judge_one {before₁ = before₁} {before₂ = before₂} p q =
    let same = decides_one p.decided q.decided in record {
      result = same.answer;
      first = p.first ∙ (ap (λ (w : Witnesses). lent (w A1) before₁) same.witness ∙ sym q.first);
      second = p.second ∙ (ap (λ (w : Witnesses). lent (w A4) before₂) same.witness ∙ sym q.second);
    }

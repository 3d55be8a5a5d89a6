-- The answer of a judging: which it is, and the two lent buffers as a function of the witnesses that go with it.
use Rattle.std.specs.Prelude.{◌≡◌, List, ℕ, ◌≤◌, T, length, Option, None, Result, Ok, Err}
use Rattle.limits.specs.Limit.{limit}
use Rattle.laws.specs.Witness.{Witness}
use Rattle.findings.specs.declared.Finding.{Finding}
use Rattle.findings.specs.declared.Finding.TheVariants.{A1, A4}
use Rattle.findings.specs.Family.{found_of}
use Rattle.findings.specs.Meant.{Means, lent}
use Rattle.refusals.specs.declared.Refusal.{Refusal}
use Rattle.refusals.specs.Numbers.{at, told}
use Rattle.model.specs.Findings.{Reports}
use Rattle.table.specs.Events.{events_of}
use Rattle.table.specs.Test.{length_ok, RecordsAnswer}
use Rattle.judge.specs.declared.Report.{Report}

-- the witness of each finding, or none
abbrev pub Witnesses : Type 0
Witnesses = Finding → Option Witness

abbrev pub no_witness : Witnesses
no_witness f = None

-- x tells the report of the table b, w being the witness of each finding
pub record Tells (b : List ℕ) (w : Witnesses) (x : Report) : Type 0 where
  -- "it is the length over 16"
  pub events : x.events ≡ (events_of b).count
  pub right : Reports (events_of b) (record { witness = w; verdict = x.verdict })
  pub means : (f : Finding) → Means (found_of x.findings f) (w f)

-- "to two lent buffers"; "cycle buffers are at least 200 bytes"
pub record Roomy (before₁ before₂ : List ℕ) : Type 0 where
  pub first : limit ≤ length before₁
  pub second : limit ≤ length before₂

-- "Order of a judging: 1, 11, then records.": which answer is given, and with which witnesses
pub data Decides (b before₁ before₂ : List ℕ) : Result Report Refusal → Witnesses → Type 0 where
  wrong_length : {r : Refusal} → ¬ T (length_ok (length b)) → told r ≡ at 1 0 → Decides b before₁ before₂ (Err r) no_witness
  no_room :
      {r : Refusal} → T (length_ok (length b)) → ¬ Roomy before₁ before₂ → told r ≡ at 11 0
      → Decides b before₁ before₂ (Err r) no_witness
  bad_record :
      {r : Refusal} → T (length_ok (length b)) → Roomy before₁ before₂ → RecordsAnswer b (Err r)
      → Decides b before₁ before₂ (Err r) no_witness
  judged :
      {n : ℕ} {x : Report} {w : Witnesses} → T (length_ok (length b)) → Roomy before₁ before₂ → RecordsAnswer b (Ok n) → Tells b w x
      → Decides b before₁ before₂ (Ok x) w

-- "The two cycles go as one byte per record to two lent buffers"; "A refusal changes nothing lent."
pub record JudgeAnswer (b before₁ after₁ before₂ after₂ : List ℕ) (answer : Result Report Refusal) : Type 0 where
  pub witness : Witnesses
  pub decided : Decides b before₁ before₂ answer witness
  pub first : after₁ ≡ lent (witness A1) before₁
  pub second : after₂ ≡ lent (witness A4) before₂

-- The answer of a judging, from the tests that come before it.
use Rattle.std.specs.Prelude.{Ok, Err}
use mathlib.Core.Path.{refl}
use mathlib.Core.Bool.{Bool}
use mathlib.Core.List.{List}
use Prim.Native.Nat.{ℕ, ◌≤◌}
use lib.Dec.{T}
use lib.ListN.{length}
use Rattle.limits.specs.Limit.{limit}
use Rattle.laws.specs.Says.{Says}
use Rattle.laws.proofs.Says.{says_iff}
use Rattle.refusals.specs.declared.Refusal.{Refusal}
use Rattle.table.specs.Test.{length_ok, RecordsAnswer}
use Rattle.judge.specs.declared.Report.{Report}
use Rattle.judge.specs.Answer.{no_witness, Roomy, Decides, judged, JudgeAnswer}
use Rattle.judge.specs.Parts.{ReportOf}

-- what the test of the two lengths tells of the buffers
pub room_told : (before₁ before₂ : List ℕ) {room : Bool} → Says room ((limit ≤ length before₁) × (limit ≤ length before₂)) → Says room (Roomy before₁ before₂)
room_told before₁ before₂ = says_iff (λ (x, y). record { first = x; second = y }) (λ r. (r.first, r.second))

-- "A refusal changes nothing lent."
pub refused : {b before₁ before₂ : List ℕ} {r : Refusal} → Decides b before₁ before₂ (Err r) no_witness → JudgeAnswer b before₁ before₁ before₂ before₂ (Err r)
refused d = record { witness = no_witness; decided = d; first = refl; second = refl }

pub reported :
    {b before₁ after₁ before₂ after₂ : List ℕ} {n : ℕ} {x : Report} → T (length_ok (length b)) → Roomy before₁ before₂ → RecordsAnswer b (Ok n) → ReportOf b before₁ after₁ before₂ after₂ x
    → JudgeAnswer b before₁ after₁ before₂ after₂ (Ok x)
reported ok roomy passed r =
    record { witness = r.witness; decided = judged ok roomy passed r.tells; first = r.first; second = r.second }

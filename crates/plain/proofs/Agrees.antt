-- The plain engine gives the judge's report on every table, refusals included, and the same bytes in both buffers.
use mathlib.Core.List.{List}
use Prim.Native.Nat.{ℕ}
use Rattle.std.proofs.Common.{Result}
use Rattle.refusals.specs.declared.Refusal.{Refusal}
use Rattle.judge.specs.declared.Report.{Report}
use Rattle.judge.specs.Answer.{JudgeAnswer}
use Rattle.judge.proofs.Unique.{Same, judge_one}

-- whatever `judge::judge` and `plain::judge` answer to one table and the same two buffers: each meets the one contract
pub agrees :
    {b before₁ before₂ after₁ after₂ after₁' after₂' : List ℕ} {judge plain : Result Report Refusal} → JudgeAnswer b before₁ after₁ before₂ after₂ judge → JudgeAnswer b before₁ after₁' before₂ after₂' plain
    → Same judge plain after₁ after₁' after₂ after₂'
agrees = judge_one

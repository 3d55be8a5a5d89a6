-- `batch::answer` is safe and ends: every answer has room, and each table stands further on than the one before.
use native.Mathlib.Omega.{arith}
use Rattle.std.proofs.Common.{length, ◌≡◌, ℕ, List}
use Rattle.limits.specs.Limit.{limit}
use Rattle.judge.specs.Answer.{Roomy}
use Rattle.lines.specs.Judged.{no_cycles}
use Rattle.answers.proofs.Stepping.{can_be_written, line_short}
use Rattle.batch.proofs.answer.Goals as goal

roomy : {first second : List ℕ} → (length first ≡ limit) × (length second ≡ limit) → Roomy first second
roomy long = record { first = omega (arith, long.0); second = omega (arith, long.1) }

pub say-requires : goal.say-requires
say-requires _ c = let w = can_be_written _ _ c.judge_at.ensures (roomy c.loop-judged.invariant) c.in-Answered.is in
    (w.short, w.whole)

pub loop-judged-smaller : goal.loop-judged-smaller
loop-judged-smaller _ c = let w = can_be_written _ _ c.judge_at.ensures (roomy c.loop-judged.invariant) c.in-Answered.is in
    omega (arith, w.further, w.within)

pub say-requires-in-Err : goal.say-requires-in-Err
say-requires-in-Err _ c = (line_short _ _ c.judge_at.ensures c.in-Ended.is c.in-Err.is, no_cycles)

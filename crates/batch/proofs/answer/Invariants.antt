-- `batch::answer` is safe and ends: both buffers keep their length, and each table stands further on than the one before.
use Rattle.std.proofs.Common.{length, ◌≡◌, ◌-◌}
use Rattle.limits.specs.Limit.{limit}
use Rattle.batch.proofs.answer.Given as goal

abbrev pub invariant-loop-judged : goal.invariant-loop-judged
invariant-loop-judged _ l = (length l.first ≡ limit) × (length l.second ≡ limit)

abbrev pub decreases-loop-judged : goal.decreases-loop-judged
decreases-loop-judged _ l = length l.batch - l.at

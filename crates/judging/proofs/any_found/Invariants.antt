-- `any_found` meets its contract: the findings at the places below `place` have been asked.
use mathlib.Core.Path.{◌≡◌}
use Prim.Native.Nat.{◌-◌, ◌≤◌}
use lib.ListN.{length}
use Rattle.laws.specs.Says.{any_below}
use Rattle.findings.specs.Family.{all_in_order, finding_at, found_of, there}
use Rattle.judging.proofs.any_found.Given as goal

abbrev pub invariant-loop-place : goal.invariant-loop-place
invariant-loop-place l = (l.place ≤ length all_in_order) × (l.any ≡ any_below (λ k. there (found_of l.x (finding_at k))) l.place)

abbrev pub decreases-loop-place : goal.decreases-loop-place
decreases-loop-place l = length all_in_order - l.place

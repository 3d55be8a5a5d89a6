-- `rules::least_restless` meets its contract: every byte before i rests where it should, so that the least is looked for from i on.
use mathlib.Core.Path.{◌≡◌}
use mathlib.Core.List.{List}
use Prim.Native.Nat.{ℕ, ◌-◌, ◌≤◌}
use Rattle.record.specs.Form.{least_failing, rests_at, least_restless}
use Rattle.record.proofs.rules.least_restless.Given as goal

pub record LeastFrom (b : List ℕ) (i : ℕ) : Type 0 where
  pub from : 6 ≤ i
  pub to : i ≤ 16
  pub same : least_restless b ≡ least_failing (rests_at b) i (16 - i)

abbrev pub invariant-loop-i : goal.invariant-loop-i
invariant-loop-i l = LeastFrom l.b l.i

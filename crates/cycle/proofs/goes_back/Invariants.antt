-- `goes_back` meets its contract: no step to a number below b goes back.
use Prim.Native.Nat.{ℕ, ◌≤◌, ◌<◌}
use Rattle.rows.specs.Rows.{Cell}
use Rattle.cycle.proofs.goes_back.Given as goal

abbrev pub invariant-loop-b : goal.invariant-loop-b
invariant-loop-b g l = (y : ℕ) → y < l.b → (a : ℕ) → Cell g.row.W l.n l.m a y → ¬ (y ≤ a)

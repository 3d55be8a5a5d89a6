-- `layers::steps_back` meets its contract: up to e steps do not lead from s back to s.
use Prim.Native.Nat.{ℕ, ◌+◌, ◌-◌, ◌≤◌}
use Rattle.rows.specs.Sets.{Is}
use Rattle.cycle.specs.Distances.{Reaches}
use Rattle.cycle.specs.Rounds.{Step, Upto, Layers}
use Rattle.cycle.proofs.layers.steps_back.Given as goal

abbrev pub invariant-loop-e : goal.invariant-loop-e
invariant-loop-e g l = (l.e ≤ l.n) × Layers (Step g.row.W l.n l.m l.alive) g.row.W l.s (l.e + 1) l.layers × Is l.met (Upto (Step g.row.W l.n l.m l.alive) l.s l.e)
    × ((k : ℕ) → k ≤ l.e → ¬ Reaches (Step g.row.W l.n l.m l.alive) l.s l.s k)

abbrev pub decreases-loop-e : goal.decreases-loop-e
decreases-loop-e g l = l.bound - l.e

-- `greedy::next_of` meets its contract: a has no step to a number of the row that was met.
use Prim.Native.Nat.{ℕ, ◌<◌}
use Rattle.rows.specs.Rows.{On}
use Rattle.rows.proofs.Walking.{Walks}
use Rattle.cycle.proofs.greedy.next_of.Given as goal

abbrev pub invariant-loop-x : goal.invariant-loop-x
invariant-loop-x g l = Walks l.x-iterator l.layers l.e l.n × ((y : ℕ) → y < l.x-iterator.at → On g.row.W l.layers y l.e → ¬ On g.row.W l.m l.a y)

-- `completeness::any_kept` meets its contract: no number of the row that was met is kept.
use Prim.Native.Nat.{ℕ, ◌<◌}
use lib.Dec.{T}
use Rattle.selections.specs.Selection.{named}
use Rattle.rows.specs.Rows.{On}
use Rattle.rows.proofs.Walking.{Walks}
use Rattle.edit.proofs.completeness.any_kept.Given as goal

abbrev pub invariant-loop-a : goal.invariant-loop-a
invariant-loop-a g l = Walks l.a-iterator l.race l.b l.n × ((i : ℕ) → i < l.a-iterator.at → On g.row.W l.race i l.b → ¬ T (named l.selection i))

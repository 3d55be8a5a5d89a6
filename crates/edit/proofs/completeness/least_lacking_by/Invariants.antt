-- `completeness::least_lacking_by` meets its contract: no record below b lacks anything.
use Prim.Native.Nat.{ℕ, ◌<◌, ◌≤◌}
use Rattle.selections.specs.Selection.{named}
use Rattle.model.specs.Table.{Table}
use Rattle.edit.specs.Columns.{Judging}
use Rattle.edit.specs.Cut.{Lacking}
use Rattle.edit.proofs.completeness.least_lacking_by.Given as goal

abbrev pub invariant-loop-b : goal.invariant-loop-b
invariant-loop-b g l = (l.b ≤ l.n) × ((t : Table) → Judging t g.row.W l.n l.of.parent.now l.of.kind.now l.of.source.now l.of.place.now l.at l.hb l.race → (i : ℕ) → i < l.b → ¬ Lacking (named l.selection) t i)

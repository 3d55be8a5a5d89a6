-- `writing::write_kept` meets its contract: the kept ones of the first n records are written.
use mathlib.Core.Path.{◌≡◌}
use Prim.Native.Nat.{◌≤◌}
use Rattle.selections.specs.Selection.{named}
use Rattle.edit.specs.Cut.{cut_bytes}
use Rattle.edit.proofs.writing.write_kept.Given as goal

abbrev pub invariant-loop-n : goal.invariant-loop-n
invariant-loop-n l = (l.n ≤ l.count) × (l.out ≡ cut_bytes (named l.selection) l.table l.n l.initial.out)

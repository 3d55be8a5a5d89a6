-- `numbering::number` meets its contract: the first n records have their new numbers, none above n.
use mathlib.Core.Path.{◌≡◌}
use Prim.Native.Nat.{◌≤◌}
use lib.ListN.{length}
use Rattle.selections.specs.Selection.{named}
use Rattle.edit.specs.Columns.{Numbered}
use Rattle.edit.proofs.numbering.number.Given as goal

abbrev pub invariant-loop-n : goal.invariant-loop-n
invariant-loop-n l = (l.n ≤ l.count) × (length l.numbers ≡ length l.initial.numbers) × Numbered (named l.selection) l.n l.numbers l.next

-- `cutting::cut_sound` meets its contract: 9, or the cut by a selection that is not refused.
use mathlib.Core.Path.{refl}
use Rattle.laws.proofs.Says.{said, denied}
use Rattle.edit.specs.Cut.{bad_selection}
use Rattle.edit.proofs.cutting.cut_sound.Goals as goal

pub returns-then-refused : goal.returns-then-refused
returns-then-refused c = record { decided = bad_selection c.requires.0 (said c.refused.ensures c.if-refused.true) refl; bytes = refl }

pub cut_by-requires : goal.cut_by-requires
cut_by-requires c = let pre = c.requires in
    (record { sound = pre.0; not_9 = denied c.refused.ensures c.if-refused.false }, pre.1)

pub returns-else-refused : goal.returns-else-refused
returns-else-refused c = c.cut_by.ensures

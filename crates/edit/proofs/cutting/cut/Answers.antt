-- `cutting::cut` meets its contract: the table's refusal, or the cut of a sound table.
use mathlib.Core.Path.{refl}
use native.Mathlib.Omega.{arith}
use Rattle.edit.specs.Cut.{bad_table}
use Rattle.edit.proofs.cutting.cut.Goals as goal

pub cut_sound-requires : goal.cut_sound-requires
cut_sound-requires c = (rw c.in-Ok.is at c.test.ensures, omega arith)

pub returns-in-Err : goal.returns-in-Err
returns-in-Err c = record { decided = bad_table (rw c.in-Err.is at c.test.ensures); bytes = refl }

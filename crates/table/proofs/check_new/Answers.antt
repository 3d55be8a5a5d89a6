-- `table::check_new` meets its contract: the bytes that are read are the new record's, and their test is exact.
use mathlib.Core.Path.{sym, subst, ap, ◌∙◌}
use mathlib.Core.List.{◌++◌}
use Prim.Native.Nat.{◌*◌}
use native.Mathlib.Omega.{arith}
use lib.ListN.{take}
use Rattle.record.specs.Form.{decode, encode}
use Rattle.table.specs.Computed.{checked}
use Rattle.table.specs.Events.{events_of}
use Rattle.table.specs.Test.{CheckAnswer}
use Rattle.table.proofs.Columns.{kept_none}
use Rattle.table.proofs.Front.{front_stands}
use Rattle.table.proofs.NewRecord.{new_exact}
use Rattle.table.proofs.check_new.Goals as goal

pub check_decoded-requires : goal.check_decoded-requires
check_decoded-requires c = let a = c.args in
    kept_none (front_stands a.table.now a.n c.requires.held _ (omega arith) (λ m h. c.requires.passed m (omega arith)))

pub returns : goal.returns
returns c = let a = c.args in
    let b = a.table.now in
    let same =
    c.check_decoded.ensures ∙ ap (checked (events_of b).at a.n) (c.read_part.ensures ∙ ap decode c.bytes_of-new.ensures)
    in
    subst (CheckAnswer (take (16 * a.n) b ++ encode a.r) a.n) (sym same) (new_exact b a.n a.r c.requires.held)

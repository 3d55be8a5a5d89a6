-- `writing::write_record` meets its contract: the renumbered bytes of the record, written at its new number.
use mathlib.Core.Path.{ap, ◌∙◌}
use Prim.Native.Nat.{ℕ, ◌*◌}
use native.Mathlib.Nat.{add-sub_cancel_left}
use lib.ListN.{take, drop}
use Rattle.record.specs.Form.{overwritten}
use Rattle.edit.specs.Columns.{number_in}
use Rattle.edit.specs.Cut.{renumbered_bytes}
use Rattle.edit.proofs.writing.write_record.Goals as goal

pub renumbered_bytes-new-requires : goal.renumbered_bytes-new-requires
renumbered_bytes-new-requires c = rw (add-sub_cancel_left (16 * c.args.n) 16) c.requires.links

pub returns : goal.returns
returns c = let a = c.args in
    let f = number_in a.numbers.now in
    c.write_part.ensures
    ∙ ap (overwritten a.out.now (f a.n))
    (c.renumbered_bytes-new.ensures
    ∙ ap (λ (k : ℕ). renumbered_bytes f (take k (drop (16 * a.n) a.table.now))) (add-sub_cancel_left (16 * a.n) 16))

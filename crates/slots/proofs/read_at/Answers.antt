-- `read_at` meets its contract: the part that is read is sixteen bytes.
use mathlib.Core.Path.{ap, ◌∙◌}
use Prim.Native.Nat.{ℕ, ◌*◌}
use native.Mathlib.Nat.{add-sub_cancel_left}
use lib.ListN.{take, drop}
use Rattle.record.specs.Form.{decode}
use Rattle.slots.proofs.read_at.Goals as goal

pub returns : goal.returns
returns c = let a = c.args in
    c.read_part.ensures
    ∙ ap (λ (k : ℕ). decode (take k (drop (16 * a.n) a.table.now))) (add-sub_cancel_left (16 * a.n) 16)

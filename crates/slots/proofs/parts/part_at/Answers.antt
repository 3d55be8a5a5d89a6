-- `parts::part_at` meets its contract: the part is sixteen bytes.
use mathlib.Core.Path.{ap, ◌∙◌}
use Prim.Native.Nat.{ℕ, ◌*◌}
use native.Mathlib.Nat.{add-sub_cancel_left}
use lib.ListN.{length, take, drop}
use Rattle.record.proofs.Parts.{part_length}
use Rattle.slots.proofs.parts.part_at.Goals as goal

pub returns : goal.returns
returns c = let a = c.args in
    let same = ap (λ (k : ℕ). take k (drop (16 * a.n) a.table.now)) (add-sub_cancel_left (16 * a.n) 16) in
    record { is = same; long = ap length same ∙ part_length a.table.now a.n c.requires }

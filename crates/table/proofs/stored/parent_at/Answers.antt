-- `stored::parent_at` meets its contract: the byte is read in the part that is the record.
use mathlib.Core.Path.{ap, ◌∙◌}
use mathlib.Core.List.{List}
use Prim.Native.Nat.{ℕ}
use Rattle.events.specs.declared.Record.{Record}
use Rattle.record.specs.Form.{parent_byte, link_from}
use Rattle.table.proofs.Standing.{part_record}
use Rattle.table.proofs.stored.parent_at.Goals as goal

pub returns : goal.returns
returns c = c.link_from.ensures
    ∙ (ap (λ (p : List ℕ). link_from (parent_byte p)) c.part_at-r.ensures.is
    ∙ ap (λ (r : Record). r.parent) (part_record c.args.table.now c.args.n c.requires.decodes))

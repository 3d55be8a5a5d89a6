-- `stored::thread_at` meets its contract: the byte is read in the part that is the record.
use mathlib.Core.Path.{ap, ◌∙◌}
use Rattle.events.specs.declared.Record.{Record}
use Rattle.record.specs.Form.{thread_byte}
use Rattle.table.proofs.Standing.{part_record}
use Rattle.table.proofs.stored.thread_at.Goals as goal

pub returns : goal.returns
returns c = ap thread_byte c.part_at-r.ensures.is
    ∙ ap (λ (r : Record). r.thread) (part_record c.args.table.now c.args.n c.requires.decodes)

-- `stored::standing_at` meets its contract: the bytes of a record that passed the tests are that record's.
use mathlib.Core.Path.{ap, ◌∙◌}
use Rattle.record.specs.Form.{record_from}
use Rattle.table.proofs.Standing.{part_record}
use Rattle.table.proofs.stored.standing_at.Goals as goal

pub returns : goal.returns
returns c = c.record_from.ensures
    ∙ (ap record_from c.part_at.ensures.is ∙ part_record c.args.table.now c.args.n c.requires.decodes)

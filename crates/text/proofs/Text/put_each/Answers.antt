-- `put_each` meets its contract: each number has room, and stands after those passed.
use mathlib.Core.Path.{◌∙◌}
use Rattle.text.specs.Text.{spaced}
use Rattle.text.proofs.Laws.{each_room, each_more}
use Rattle.text.proofs.Text.put_each.Goals as goal

pub put_spaced-requires : goal.put_spaced-requires
put_spaced-requires c = each_room spaced _ _ _ _ _ _ 0 _ c.loop-n-test.true c.requires.1 c.loop-n.invariant.written c.wide.ensures

pub loop-n-preserved : goal.loop-n-preserved
loop-n-preserved c = record {
  same_reference = c.put_spaced.ensures.same_reference ∙ c.loop-n.invariant.same_reference;
  written = each_more spaced _ _ _ _ _ _ 0 _ c.loop-n-test.true c.requires.1 c.loop-n.invariant.written c.wide.ensures c.put_spaced.ensures.written;
}

-- `with_table` meets its contract: the figures of one table are small.
use mathlib.Core.Path.{sym, subst}
use native.Mathlib.Omega.{arith}
use Rattle.tally.specs.Sums.{Small}
use Rattle.tally.proofs.Laws.{figures_small}
use Rattle.counting.proofs.with_table.Goals as goal

pub plus-requires : goal.plus-requires
plus-requires c = let one = c.of_table.ensures in
    (c.requires, subst Small (sym one.is) (figures_small _ (omega arith)))

-- `figures_of` meets its contract: each turn passes and counts a table more, and where none stands the tables passed are all.
use Rattle.std.proofs.Common.{arith, ap, List, ℕ, Bor, ◌∙◌}
use Rattle.monday.proofs.Turn.{start, small, ends, nearer, onward}
use Rattle.monday.proofs.figures_of.Goals as goal

pub loop-reader-init : goal.loop-reader-init
loop-reader-init c = let e = c.new-reader.ensures in
    start (ap (λ (b : Bor (List ℕ)). b.now) e.0) e.1 c.none-figures.ensures

pub with_table-figures-requires : goal.with_table-figures-requires
with_table-figures-requires c = small c.loop-reader.invariant (omega arith)

pub loop-reader-smaller : goal.loop-reader-smaller
loop-reader-smaller c = nearer c.loop-reader.invariant (cc) c.next-reader.result c.next-reader.ensures.1

pub loop-reader-preserved : goal.loop-reader-preserved
loop-reader-preserved c = let e = c.next-reader.ensures in
    onward c.loop-reader.invariant (cc) c.next-reader.result e.1 (ap (λ (b : Bor (List ℕ)). b.now) e.0) c.table.ensures c.with_table-figures.ensures

pub returns : goal.returns
returns c = let e = c.closed.ensures in ends c.loop-reader.invariant c.closed.result e.0 (e.1 ∙ c.item-2.ensures)

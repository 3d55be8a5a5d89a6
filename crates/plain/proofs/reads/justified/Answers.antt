-- `reads::justified` meets its contract: the link of the source tells which case it is.
use mathlib.Core.Path.{sym, ◌∙◌}
use Rattle.links.proofs.Sourced.{the_source}
use Rattle.links.proofs.Reading.{says_justified, says_justified_without}
use Rattle.plain.proofs.reads.justified.Goals as goal

pub returns-else-not-written : goal.returns-else-not-written
returns-else-not-written c = rw c.if-not-written.false at (says_justified_without c.raced.ensures (sym c.source.ensures ∙ c.in-None.is) c.written.ensures)

pub returns-then-before : goal.returns-then-before
returns-then-before c = let counted = c.requires.0 in
    rw c.if-before.true at (says_justified c.raced-then-before.ensures (the_source _ counted c.source.ensures c.in-Some.is) c.before-in-Some.ensures)

-- `around::owns` meets its contract: a write owns itself and its readers.
use Rattle.tracing.proofs.Owned.{owns_itself, owns_by_source}
use Rattle.tracing.proofs.around.owns.Goals as goal

pub returns-then-w-x : goal.returns-then-w-x
returns-then-w-x c = owns_itself c.if-w-x.true

pub returns-in-Some : goal.returns-in-Some
returns-in-Some c = owns_by_source c.if-w-x.false c.source.ensures c.requires.sound.formed c.in-Some.is

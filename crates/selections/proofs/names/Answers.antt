-- `names` meets its contract: it is the definition, read at its byte and bit.
use mathlib.Core.Path.{refl}
use Rattle.selections.proofs.names.Goals as goal

pub returns : goal.returns
returns c = refl

-- `reads::raced` meets its contract: each record is asked.
use mathlib.Core.Path.{refl}
use Rattle.std.proofs.Common.{rules}
use Rattle.asking.proofs.Chains.{says_some}
use Rattle.plain.proofs.Reading.{race_low}
use Rattle.plain.proofs.reads.raced.Goals as goal

pub returns : goal.returns
returns c = says_some _ c.any.ensures.ran refl (race_low c.requires.0) (λ x b q k. search rules)

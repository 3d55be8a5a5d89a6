-- `around::before_elsewhere` meets its contract: each record is asked.
use mathlib.Core.Path.{refl}
use Rattle.std.proofs.Common.{rules}
use Rattle.asking.proofs.Chains.{says_some}
use Rattle.tracing.proofs.Ways.{hb_low}
use Rattle.tracing.proofs.around.before_elsewhere.Goals as goal

pub returns : goal.returns
returns c = says_some _ c.any.ensures.ran refl (λ x z. (hb_low c.requires.table).right z.1) (λ x b q k. search rules)

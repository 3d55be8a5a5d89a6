-- `not_atomic` meets its contract: by the code of its order.
use mathlib.Core.Path.{ap, ◌∙◌}
use Prim.Native.Nat.{ℕ}
use lib.Dec.{eqb}
use Rattle.events.specs.Words.{is_na}
use Rattle.facts.proofs.Bytes.{na_by_code}
use Rattle.facts.proofs.not_atomic.Goals as goal

pub returns : goal.returns
returns c = ap (λ (k : ℕ). eqb k 0) c.code.ensures ∙ (na_by_code c.order.result ∙ ap is_na c.order.ensures)

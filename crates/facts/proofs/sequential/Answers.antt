-- `sequential` meets its contract: by the code of its order.
use mathlib.Core.Path.{ap, ◌∙◌}
use Prim.Native.Nat.{ℕ}
use lib.Dec.{eqb}
use Rattle.events.specs.Words.{is_sc}
use Rattle.facts.proofs.Bytes.{sc_by_code}
use Rattle.facts.proofs.sequential.Goals as goal

pub returns : goal.returns
returns c = ap (λ (k : ℕ). eqb k 4) c.code.ensures ∙ (sc_by_code c.order.result ∙ ap is_sc c.order.ensures)

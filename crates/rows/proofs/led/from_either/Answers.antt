-- `led::from_either` meets its contract: by the one column or by the other.
use Rattle.rows.proofs.Sets.{is_iff, either_of}
use Rattle.rows.proofs.Steps.{then_either, either_then}
use Rattle.rows.proofs.led.from_either.Goals as goal

pub returns : goal.returns
returns g c = is_iff (λ a. either_then) (λ a. then_either) (either_of c.row_before.ensures c.row_before-2.ensures c.or.ensures)

-- `fetch` meets its contract: by what the second question says.
use mathlib.Core.Path.{◌∙◌}
use native.Mathlib.Omega.{arith}
use Rattle.fetch.proofs.Fetching.{fetched_given, fetched_refused, given_below}
use Rattle.fetch.proofs.fetch.Goals as goal

pub part_at-requires : goal.part_at-requires
part_at-requires c = let below = given_below (rw c.in-Ok.is at c.refusal_of_fetch.ensures) in
    omega arith

pub returns-in-Ok : goal.returns-in-Ok
returns-in-Ok c = c.part_at.ensures.is ∙ fetched_given (rw c.in-Ok.is at c.refusal_of_fetch.ensures)

pub returns-in-Err : goal.returns-in-Err
returns-in-Err c = fetched_refused (rw c.in-Err.is at c.refusal_of_fetch.ensures)

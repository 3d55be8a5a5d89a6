-- `verdict_of` meets its contract: W's witness, and whether there is any.
use Rattle.judging.proofs.verdict_of.Goals as goal

pub returns : goal.returns
returns c = rw (c.there.ensures, c.any_found.ensures) at c.verdict_by.ensures

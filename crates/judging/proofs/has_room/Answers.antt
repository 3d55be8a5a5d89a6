-- `has_room` meets its contract: the two tests tell the two parts.
use Rattle.laws.proofs.Says.{says_le, says_and}
use Rattle.judging.proofs.has_room.Goals as goal

pub returns : goal.returns
returns c = says_and (says_le _ _) (says_le _ _)

-- `completeness::race_kept` meets its contract: it does not stand on a race, or a racing write is kept.
use Rattle.laws.proofs.Says.{says_if}
use Rattle.edit.proofs.Completing.{race_kept_told}
use Rattle.edit.proofs.completeness.race_kept.Goals as goal

pub returns : goal.returns
returns g c = λ t g. says_if (c.stands_on_race.ensures t g) (race_kept_told c.args.selection.now c.requires.0 g c.any_kept.ensures)

-- `completeness::lacks` meets its contract: it is told part by part.
use Rattle.laws.proofs.Says.{says_is}
use Rattle.edit.proofs.Completing.{lacking_told}
use Rattle.edit.proofs.completeness.lacks.Goals as goal

pub returns : goal.returns
returns g c = λ t j.
    lacking_told c.args.selection.now c.requires.0 j c.link_kept.ensures c.link_kept-2.ensures (c.race_kept.ensures t j.reading)
    (says_is c.names.ensures)

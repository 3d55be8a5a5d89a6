-- `refused` meets its contract: nothing is named, or something at or past the count; or the size is another.
use Rattle.laws.proofs.Says.{says_yes}
use Rattle.selections.specs.Selection.{other_size}
use Rattle.selections.proofs.Naming.{refused_told}
use Rattle.selections.proofs.refused.Goals as goal

pub returns-then-selection-eq-SELECTION : goal.returns-then-selection-eq-SELECTION
returns-then-selection-eq-SELECTION c = refused_told c.if-selection-eq-SELECTION.true c.names_past.ensures c.names_past-then-selection-eq-SELECTION.ensures

pub returns : goal.returns
returns c = says_yes (other_size c.if-selection-eq-SELECTION.false)

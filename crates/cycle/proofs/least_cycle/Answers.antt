-- `least_cycle` meets its contract: no step goes back, or the least cycle lies among what is alive.
use mathlib.Core.Path.{refl}
use Rattle.laws.proofs.Says.{denied}
use Rattle.findings.proofs.Meant.{finds_in_iff, found_no_cycle}
use Rattle.cycle.proofs.Trimming.{none_back, witness_kept, witness_was}
use Rattle.cycle.proofs.least_cycle.Goals as goal

pub returns-then-back : goal.returns-then-back
returns-then-back g c = finds_in_iff witness_was (witness_kept c.trim.ensures) c.least_cycle_among.ensures

pub returns-else-back : goal.returns-else-back
returns-else-back g c = found_no_cycle (none_back (denied c.requires.1 c.if-back.false)) refl

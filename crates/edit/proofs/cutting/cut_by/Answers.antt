-- `cutting::cut_by` meets its contract: the least record that lacks something is 10's place.
use mathlib.Core.Path.{refl}
use Rattle.selections.proofs.Naming.{bit_for_each}
use Rattle.facts.proofs.Promise.{counted}
use Rattle.facts.proofs.Records.{few}
use Rattle.edit.specs.Cut.{lacking}
use Rattle.edit.proofs.cutting.cut_by.Goals as goal

pub least_lacking-requires : goal.least_lacking-requires
least_lacking-requires c = let sound = counted c.args.table.now c.args.count c.requires.0.sound in
    (sound, bit_for_each c.requires.0.not_9 (few sound))

pub cut_complete-requires : goal.cut_complete-requires
cut_complete-requires c = let pre = c.requires in
    (record { selected = pre.0; not_10 = rw c.in-None.is at c.least_lacking.ensures }, pre.1)

pub returns-in-Some : goal.returns-in-Some
returns-in-Some c = record {
  decided = lacking c.requires.0 (rw c.in-Some.is at c.least_lacking.ensures) refl;
  bytes = refl;
}

pub returns-in-None : goal.returns-in-None
returns-in-None c = c.cut_complete.ensures

-- `numbering::number` meets its contract: the first n records have their new numbers, none above n.
use mathlib.Core.Path.{◌≡◌, ap, ◌∙◌}
use mathlib.Core.Bool.{Bool}
use native.Mathlib.Omega.{arith}
use lib.ListN.{length-set}
use Rattle.selections.specs.Selection.{named}
use Rattle.model.specs.Cut.{one_more_if}
use Rattle.model.proofs.CutNumbers.{new_at_most}
use Rattle.edit.proofs.NewNumbers.{numbered_none, numbered_more}
use Rattle.edit.proofs.numbering.number.Goals as goal

pub overflow_cast-numbers : goal.overflow_cast-numbers
overflow_cast-numbers c = omega (arith, c.loop-n.invariant.2.next, new_at_most (named c.args.selection.now) c.loop-n.n, c.requires.few)

pub bounds-numbers-n : goal.bounds-numbers-n
bounds-numbers-n c = omega (arith, c.requires.room)

pub names-requires : goal.names-requires
names-requires c = omega (arith, c.requires.bits)

pub one_more_if-next-requires : goal.one_more_if-next-requires
one_more_if-next-requires c = omega (arith, c.loop-n.invariant.2.next, new_at_most (named c.args.selection.now) c.loop-n.n, c.requires.few)

pub loop-n-preserved : goal.loop-n-preserved
loop-n-preserved c = (omega arith, simp length-set c.loop-n.invariant.1, numbered_more (omega (arith, c.requires.room)) c.loop-n.invariant.2 (c.one_more_if-next.ensures ∙ ap (λ (x : Bool). one_more_if x c.loop-n.next) c.names.ensures))

pub returns : goal.returns
returns c = let e : c.loop-n.n ≡ c.args.count = omega arith in
    rw e at c.loop-n.invariant.2

pub loop-n-init : goal.loop-n-init
loop-n-init c = (omega arith, omega arith, numbered_none)

pub shape_of-numbers : goal.shape_of-numbers
shape_of-numbers c = c.loop-n.invariant.1

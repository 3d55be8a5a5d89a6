-- `any_found` meets its contract: the findings at the places below `place` have been asked.
use mathlib.Core.Path.{◌≡◌, refl}
use native.Mathlib.Omega.{arith}
use native.Mathlib.Numerals.{add-one}
use lib.ListN.{length}
use Rattle.laws.specs.Says.{any_below}
use Rattle.findings.specs.Family.{all_in_order}
use Rattle.judging.specs.Verdict.{any_found}
use Rattle.judging.proofs.any_found.Goals as goal

pub loop-place-init : goal.loop-place-init
unfolding any_below
loop-place-init c = (omega arith, refl)

pub loop-place-preserved : goal.loop-place-preserved
unfolding any_below
loop-place-preserved c = let turn = c.loop-place in
    (omega arith, rw (add-one, turn.invariant.1, c.there-any.ensures, c.of-found.ensures, c.at.ensures))

pub returns : goal.returns
unfolding any_found
returns c = let all : c.loop-place.place ≡ length all_in_order = omega arith in
    rw all at c.loop-place.invariant.1

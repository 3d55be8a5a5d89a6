-- `writing::write_kept` meets its contract: the kept ones of the first n records are written.
use mathlib.Core.Path.{◌≡◌, refl, ap, ◌∙◌}
use native.Mathlib.Omega.{arith}
use lib.ListN.{length}
use Rattle.laws.proofs.Says.{said, denied, says_is}
use Rattle.edit.specs.Cut.{kept_bytes}
use Rattle.edit.proofs.WritingOut.{written_length, placing, one_written, none_written}
use Rattle.edit.proofs.writing.write_kept.Goals as goal
use Rattle.edit.proofs.writing.write_kept.Goals.{then-names, else-names}

pub loop-n-init : goal.loop-n-init
unfolding kept_bytes
loop-n-init c = (omega arith, refl)

pub names-requires : goal.names-requires
names-requires c = omega (arith, c.requires.bits)

pub write_record-requires : goal.write_record-requires
write_record-requires c = placing c.requires c.loop-n-test.true c.loop-n.invariant.1
    (said (says_is c.names.ensures) c.if-names.true)

pub loop-n-preserved : goal.loop-n-preserved
loop-n-preserved c = let is = says_is c.names.ensures in
    let h = c.loop-n-test.true in
    elim c.if-names.branch [
      | then-names w ↦ (omega arith, w.out-is ∙ one_written c.requires h c.loop-n.invariant.1 (said is w.if-names.true) w.write_record.ensures)
      | else-names w ↦ (omega arith, w.out-is ∙ none_written c.requires h c.loop-n.invariant.1 (denied is w.if-names.false))
    ]

pub shape_of-out : goal.shape_of-out
shape_of-out c = ap length c.loop-n.invariant.1 ∙ written_length c.requires c.loop-n.invariant.0

pub returns : goal.returns
returns c = let e : c.loop-n.n ≡ c.args.count = omega arith in
    rw e at c.loop-n.invariant.1

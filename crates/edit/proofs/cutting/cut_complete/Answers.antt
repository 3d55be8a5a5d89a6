-- `cutting::cut_complete` meets its contract: the new numbers fit their column, and the kept records the output or not.
use mathlib.Core.List.{List}
use Prim.Native.Nat.{ℕ, ◌*◌, ◌≤◌}
use native.Mathlib.Omega.{arith}
use lib.ListN.{length}
use Rattle.selections.specs.Selection.{named}
use Rattle.selections.proofs.Naming.{bit_for_each}
use Rattle.model.proofs.CutNumbers.{new_at_most}
use Rattle.facts.specs.Sound.{Counted}
use Rattle.facts.proofs.Promise.{counted}
use Rattle.facts.proofs.Records.{few}
use Rattle.edit.specs.Cut.{Whole}
use Rattle.edit.proofs.Answering.{kept_answer, no_room_answer}
use Rattle.edit.proofs.cutting.cut_complete.Goals as goal

sound : {b s : List ℕ} {count : ℕ} → Whole b s count → Counted b count
sound {b} {s} {count} whole = counted b count whole.selected.sound

bits : {b s : List ℕ} {count : ℕ} → Whole b s count → count ≤ 8 * length s
bits whole = bit_for_each whole.selected.not_9 (few (sound whole))

pub number-size-requires : goal.number-size-requires
number-size-requires c = record { few = few (sound c.requires.0); bits = bits c.requires.0; room = omega (arith, few (sound c.requires.0), c.requires.1) }

pub overflow_mul-size : goal.overflow_mul-size
overflow_mul-size c = omega (arith, c.number-size.ensures.next, new_at_most (named c.args.selection.now) c.args.count, few (sound c.requires.0))

pub write_kept-requires : goal.write_kept-requires
write_kept-requires c = record {
  table = sound c.requires.0;
  bits = bits c.requires.0;
  numbered = c.number-size.ensures.each;
  column = omega (arith, few (sound c.requires.0), c.requires.1, c.number-size.auto.numbers);
  room = omega (arith, c.if-size-out.true, c.number-size.ensures.next);
}

pub returns-then-size-out : goal.returns-then-size-out
returns-then-size-out c = kept_answer c.requires.0 c.number-size.ensures.next c.if-size-out.true c.write_kept.ensures

pub returns-else-size-out : goal.returns-else-size-out
returns-else-size-out c = no_room_answer c.requires.0 c.number-size.ensures.next c.if-size-out.false

-- `writing::renumbered_bytes` meets its contract: a copy, with the two links renumbered.
use Rattle.edit.proofs.writing.renumbered_bytes.Goals as goal

pub relinked-requires : goal.relinked-requires
relinked-requires c = c.requires.parent

pub relinked-requires-2 : goal.relinked-requires-2
relinked-requires-2 c = c.requires.source

pub returns : goal.returns
returns c = simp (c.relinked-2.ensures, c.relinked.ensures, c.copy_from_slice.ensures.after)

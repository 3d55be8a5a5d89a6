-- `item_at` meets its contract: the tests of the code are those of `stands_at`.
use borrow.Author.Tests.{le-leb, lt-leb, lt-ltb, le-ltb}
use Rattle.batches.specs.Batch.{stands_at}
use Rattle.batches.proofs.item_at.Goals as goal

pub returns-then-size-gt-MOST : goal.returns-then-size-gt-MOST
unfolding stands_at
returns-then-size-gt-MOST c = simp (c.refused.ensures, lt-ltb _ _ c.if-size-gt-MOST.true)

pub returns-then-size-at : goal.returns-then-size-at
unfolding stands_at
returns-then-size-at c = simp (le-ltb _ _ c.if-size-gt-MOST.false, le-leb _ _ c.if-size-at.true)

pub returns-then-size-at-lt-HEADER : goal.returns-then-size-at-lt-HEADER
unfolding stands_at
returns-then-size-at-lt-HEADER c = simp (c.refused-then-size-at-lt-HEADER.ensures, le-ltb _ _ c.if-size-gt-MOST.false, lt-leb _ _ c.if-size-at.false, lt-ltb _ _ c.if-size-at-lt-HEADER.true)

pub returns : goal.returns
unfolding stands_at
returns c = simp (
  c.headed.ensures,
  c.word_of-len.ensures,
  c.is_mark-mark.ensures,
  le-ltb _ _ c.if-size-gt-MOST.false,
  lt-leb _ _ c.if-size-at.false,
  le-ltb _ _ c.if-size-at-lt-HEADER.false,
)

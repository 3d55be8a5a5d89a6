-- `forks::forks` meets its contract: the column leads to no two of the numbers below b from one.
use Rattle.laws.proofs.Says.{says_yes, says_no, said, denied}
use Rattle.spread.proofs.Forking.{seen_none, seen_more, seen_same, seen_forks, seen_all}
use Rattle.spread.proofs.forks.forks.Goals as goal
use Rattle.spread.proofs.forks.forks.Goals.{then-v-b+else-has, else-v-b}

pub loop-b-init : goal.loop-b-init
loop-b-init c = seen_none c.nothing-seen.ensures

pub returns-then-has : goal.returns-then-has
returns-then-has c = says_yes (seen_forks c.loop-b.invariant c.loop-b-test.true c.if-v-b.true (said c.has.ensures c.if-has.true))

pub loop-b-preserved : goal.loop-b-preserved
loop-b-preserved c = let seen = c.loop-b.invariant in
    elim c.if-v-b.branch [
      | then-v-b+else-has w ↦ rw w.seen-is (seen_more seen w.if-v-b.true (denied w.has.ensures w.if-has.false) w.add.ensures)
      | else-v-b w ↦ rw w.seen-is (seen_same seen w.if-v-b.false)
    ]

pub returns : goal.returns
returns c = says_no (seen_all c.loop-b.invariant c.loop-b-test.false)

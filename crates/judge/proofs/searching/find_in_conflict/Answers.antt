-- `searching::find_in_conflict` meets its contract: the two searches, or nothing where no records conflict.
use Rattle.laws.proofs.Says.{denied}
use Rattle.judge.proofs.Grounds.{none_in_conflict}
use Rattle.judge.proofs.searching.find_in_conflict.Goals as goal

-- room for rows, whichever they are: what they hold is asked where nothing is found
pub relates_any-requires : goal.relates_any-requires
relates_any-requires g c = let p = c.requires in
    search (p.0.for_readers, p.1)

pub returns-then-relates_any : goal.returns-then-relates_any
returns-then-relates_any g c = λ t g.
    record {
      before = c.find_before_in_conflict-a2.ensures t g.known g.by_hb g.by_cf;
      sources = c.find_sources_in_conflict-a3.ensures t g.known g.parents g.arms g.sources g.by_readers g.by_hb;
    }

pub returns-else-relates_any : goal.returns-else-relates_any
returns-else-relates_any g c = λ t g. none_in_conflict g (denied c.relates_any.ensures c.if-relates_any.false)

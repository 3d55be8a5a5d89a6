-- `searching::find_pair` meets its contract: it ends at the pair that passes, or past the last row.
use mathlib.Core.Path.{◌≡◌, ◌∙◌}
use native.Mathlib.Omega.{arith}
use Rattle.plain.specs.Pairs.{no_pair, that_pair}
use Rattle.plain.proofs.searching.find_pair.Goals as goal
use Rattle.plain.proofs.searching.find_pair.Goals.{else-search-test, then-search-test+then-loop-q-test+then-shows}

pub returns : goal.returns
returns g c = elim c.search-test.branch [
  | else-search-test w ↦
      let e : c.search.p ≡ c.args.n = omega arith in
      rw (w.found-is ∙ c.search.invariant.0) (no_pair (rw e at c.search.invariant.1))
  | then-search-test+then-loop-q-test+then-shows w ↦ rw w.found-is (that_pair {p = c.search.p} {q = w.loop-q.q} (omega arith) (omega arith) (rw w.if-shows.true at w.shows.ensures) w.loop-q.invariant.1)
]

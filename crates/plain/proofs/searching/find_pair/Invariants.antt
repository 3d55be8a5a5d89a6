-- `searching::find_pair` meets its contract: the pairs before p, q are refused, and nothing is found until the search is left.
use mathlib.Core.Path.{◌≡◌}
use Rattle.findings.specs.declared.Found.TheVariants.{Nothing}
use Rattle.plain.specs.Pairs.{Refused}
use Rattle.plain.proofs.searching.find_pair.Given as goal

abbrev pub invariant-loop-q : goal.invariant-loop-q
invariant-loop-q g l = (l.found ≡ Nothing) × Refused l.n (goal.F-post g l.shows) l.p l.q

abbrev pub invariant-search : goal.invariant-search
invariant-search g l = (l.found ≡ Nothing) × Refused l.n (goal.F-post g l.shows) l.p 0

-- `asked::tokens` meets its contract: the first q rows have the pairs, and those below q that took from each source are noted.
use Rattle.rows.specs.Rows.{On, Made}
use Rattle.pairs.specs.Tokens.{Taken, TwoTaken}
use Rattle.pairs.proofs.asked.tokens.Given as goal

abbrev pub invariant-loop-q : goal.invariant-loop-q
invariant-loop-q g l = Made g.row.W l.n (Taken l.q l.kind l.source) l.fn.takers l.takers
    × Made g.row.W l.q (TwoTaken l.kind l.source (On g.row.W l.apart)) l.fn.out l.out

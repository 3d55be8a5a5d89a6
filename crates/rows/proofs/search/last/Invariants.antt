-- `search::last` meets its contract: the row has no number from word k on.
use Rattle.rows.proofs.Along.{Clear}
use Rattle.rows.proofs.search.last.Given as goal

abbrev pub invariant-loop-k : goal.invariant-loop-k
invariant-loop-k g l = Clear g.row.W l.m l.b l.k

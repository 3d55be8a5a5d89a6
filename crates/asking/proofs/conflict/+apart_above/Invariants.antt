-- `conflict::apart_above` climbs from b to its parent, whose number is smaller.
use Rattle.asking.proofs.conflict.+apart_above.Given as goal

abbrev pub decreases-apart_above : goal.decreases-apart_above
decreases-apart_above l = l.b

-- `conflict::conflict` climbs from a to its parent, whose number is smaller.
use Rattle.asking.proofs.conflict.+conflict.Given as goal

abbrev pub decreases-conflict : goal.decreases-conflict
decreases-conflict l = l.a

-- `tree::ancestor` climbs to the parent, whose number is smaller.
use Rattle.asking.proofs.tree.+ancestor.Given as goal

abbrev pub decreases-ancestor : goal.decreases-ancestor
decreases-ancestor l = l.b

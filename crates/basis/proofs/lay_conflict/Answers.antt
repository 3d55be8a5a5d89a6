-- `lay_conflict` meets its contract: what each number's own row makes, or empty rows where nothing forks.
use Rattle.laws.proofs.Says.{denied}
use Rattle.basis.proofs.Conflicts.{conflict_made, no_conflict}
use Rattle.basis.proofs.lay_conflict.Goals as goal

pub returns-then-forks : goal.returns-then-forks
returns-then-forks g c = λ t k parents arms.
    conflict_made k parents arms c.each_itself.ensures.holds c.apart.ensures.2

pub returns-else-forks : goal.returns-else-forks
returns-else-forks g c = λ t k parents arms. no_conflict k parents arms (denied c.forks.ensures c.if-forks.false) c.clear.ensures

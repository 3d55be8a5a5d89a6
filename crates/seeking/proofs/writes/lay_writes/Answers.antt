-- `writes::lay_writes` meets its contract: what is handed on is wb0.
use Rattle.seeking.proofs.Writing.{wb0_made}
use Rattle.seeking.proofs.writes.lay_writes.Goals as goal

pub returns : goal.returns
returns g c = λ t g. wb0_made g c.handed_on.ensures.1

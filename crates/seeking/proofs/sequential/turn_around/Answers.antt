-- `sequential::turn_around` meets its contract: each matrix is told by the ones that it is made of.
use Rattle.seeking.proofs.Turning.{stands_made, po_made, elsewhere_made, around_made, detour_made}
use Rattle.seeking.proofs.sequential.turn_around.Goals as goal

pub returns : goal.returns
returns g c = λ t k parents syncs places.
    let at = stands_made c.sorted.ensures c.nothing.ensures c.put.ensures in
    let po = po_made k parents places c.along.ensures in
    let other = elsewhere_made k parents places po.holds at.holds c.elsewhere.ensures in
    let led = around_made k parents places syncs other.holds c.onward.ensures in
    (at, detour_made k parents places other.holds led.holds c.detours.ensures)

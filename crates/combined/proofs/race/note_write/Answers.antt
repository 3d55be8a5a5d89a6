-- `race::note_write` meets its contract: b writes at one place, or at none.
use mathlib.Core.Path.{refl, sym}
use native.Mathlib.Omega.{arith}
use Rattle.rows.proofs.Noted.{noted, not_noted}
use Rattle.combined.proofs.Racing.{write_up, write_down}
use Rattle.combined.proofs.race.note_write.Goals as goal

pub returns-then-kind-b-ge2 : goal.returns-then-kind-b-ge2
returns-then-kind-b-ge2 g c = noted _ _ write_up write_down c.requires.held (omega arith)
    (record { low = omega arith; writes = c.if-kind-b-ge2.true; at = refl }) (λ l s. sym s.at) c.add.ensures

pub returns-else-kind-b-ge2 : goal.returns-else-kind-b-ge2
returns-else-kind-b-ge2 g c = not_noted _ _ write_up write_down c.requires.held (λ l _ s. omega (arith, c.if-kind-b-ge2.false, s.writes))

-- `reads::find_read` meets its contract: no record below b is an unjustified read.
use Prim.Native.Nat.{ℕ, ◌-◌, ◌<◌, ◌≤◌}
use lib.ListN.{length}
use Rattle.model.specs.Table.{Table}
use Rattle.model.specs.Findings.{ShowsR}
use Rattle.seeking.specs.Reads.{ReadRoom, Reading}
use Rattle.seeking.proofs.reads.find_read.Given as goal

abbrev pub invariant-loop-b : goal.invariant-loop-b
invariant-loop-b g l = (l.b ≤ l.n) × (l.n ≤ length l.of.kind.now) × ReadRoom g.row.W l.n l.of.source.now l.of.place.now l.at l.hb l.race × ((t : Table) → Reading t g.row.W l.n l.of.kind.now l.of.source.now l.of.place.now l.at l.hb l.race → (j : ℕ) → j < l.b → ¬ ShowsR t j)

abbrev pub decreases-loop-b : goal.decreases-loop-b
decreases-loop-b g l = l.n - l.b

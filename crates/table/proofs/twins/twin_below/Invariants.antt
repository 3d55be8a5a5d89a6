-- `twins::twin_below` meets its contract: what was found is what a search below m finds.
use mathlib.Core.Path.{◌≡◌}
use Prim.Native.Nat.{◌≤◌}
use Rattle.table.specs.Computed.{twin_fault}
use Rattle.table.specs.Events.{events_of}
use Rattle.table.proofs.twins.twin_below.Given as goal

abbrev pub invariant-loop-m : goal.invariant-loop-m
invariant-loop-m l = (l.found ≡ twin_fault (events_of l.table).at l.m l.new) × (l.m ≤ l.n)

-- `faults::thread_stood` meets its contract: a search below m finds nothing, until it finds the thread.
use mathlib.Core.Path.{◌≡◌}
use mathlib.Core.Bool.{false}
use Prim.Native.Nat.{◌≤◌}
use Rattle.table.specs.Computed.{stood}
use Rattle.table.specs.Events.{events_of}
use Rattle.table.proofs.faults.thread_stood.Given as goal

abbrev pub invariant-loop-m : goal.invariant-loop-m
invariant-loop-m l = (false ≡ stood (events_of l.table).at l.m l.thread) × (l.m ≤ l.n)

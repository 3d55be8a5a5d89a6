-- `put_each` meets its contract: in the loop the numbers passed stand, each after a space.
use lib.ListN.{take}
use Rattle.std.specs.Prelude.{◌≡◌}
use Rattle.text.specs.Text.{Written, spaced_each}
use Rattle.text.proofs.Text.put_each.Given as goal

abbrev pub invariant-loop-n : goal.invariant-loop-n
invariant-loop-n l = record {
  same_reference : l.self.out.ghost_name ≡ l.initial.self.out.ghost_name;
  written : Written l.initial.self.out.now l.initial.self.at (spaced_each (take l.n-index l.n-items)) l.self.out.now l.self.at;
}

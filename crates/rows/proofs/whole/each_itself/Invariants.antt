-- `whole::each_itself` meets its contract: each of the first b rows has its own number, and the others nothing.
use mathlib.Core.Path.{◌≡◌}
use Prim.Native.Nat.{ℕ, ◌<◌}
use Rattle.rows.specs.Rows.{Made}
use Rattle.rows.proofs.whole.each_itself.Given as goal

-- a number below k, and itself
abbrev pub Own : ℕ → ℕ → ℕ → Type 0
Own k a b = (a ≡ b) × (b < k)

abbrev pub invariant-loop-b : goal.invariant-loop-b
invariant-loop-b g l = Made g.row.W l.n (Own l.b) l.fn.out l.out

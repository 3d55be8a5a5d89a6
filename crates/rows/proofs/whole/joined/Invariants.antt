-- `whole::joined` meets its contract: the set has what the first rows have.
use Prim.Native.Nat.{ℕ}
use Rattle.rows.specs.Sets.{Is}
use Rattle.rows.specs.Rows.{Cell}
use Rattle.rows.proofs.whole.joined.Given as goal

abbrev pub invariant-loop-words : goal.invariant-loop-words
invariant-loop-words g l = Is l.all (λ a. (b : ℕ) × Cell g.row.W l.words-index l.m a b)

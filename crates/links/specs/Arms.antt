-- The arms of a branch.
use Rattle.std.specs.Prelude.{◌≡◌, ℕ}
use Rattle.model.specs.Table.{Table, thread, Parent}

-- two children of one parent with one thread
pub record Arms (t : Table) (a b : ℕ) : Type 0 where
  pub parent : ℕ
  pub of_a : Parent t parent a
  pub of_b : Parent t parent b
  pub one_thread : thread t a ≡ thread t b
  pub differ : ¬ (a ≡ b)

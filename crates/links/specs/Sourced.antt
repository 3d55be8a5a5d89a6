-- Relations by way of a source.
use Rattle.std.specs.Prelude.{ℕ}
use Rattle.model.specs.Table.{Table, Source}

-- r has a source that R relates to b
pub record FromSource (t : Table) (R : ℕ → ℕ → Type 0) (r b : ℕ) : Type 0 where
  pub s : ℕ
  pub source : Source t s r
  pub related : R s b

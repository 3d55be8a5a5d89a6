-- Happening before by a last step of one kind.
use Rattle.std.specs.Prelude.{◌≡◌, List, ◌⊎◌, ℕ}
use Rattle.model.specs.Table.{Table, Parent}
use Rattle.model.specs.Relations.{Sw, Hb}
use Rattle.table.specs.Events.{events_of}
use Rattle.facts.specs.Sound.{One}

-- some record steps to b by S, and it is a or a happens before it
pub record LastBy (t : Table) (S : ℕ → ℕ → Type 0) (a b : ℕ) : Type 0 where
  pub from : ℕ
  pub step : S from b
  pub rest : (a ≡ from) ⊎ Hb t a from

-- "one for a last step of po": a step of po ends in one from the parent
abbrev pub ByPo : Table → ℕ → ℕ → Type 0
ByPo t = LastBy t (Parent t)

-- "and one for a last step of sw"
abbrev pub BySw : Table → ℕ → ℕ → Type 0
BySw t = LastBy t (Sw t)

-- b is a record of a sound table, and the question for a last step of po has been answered no
pub record AskedLast (bytes : List ℕ) (a b : ℕ) : Type 0 where
  pub at : One bytes b
  pub not_by_po : ¬ ByPo (events_of bytes) a b

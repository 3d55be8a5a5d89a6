-- Columns that are being filled.
use mathlib.Core.Path.{◌≡◌, refl, ◌∙◌}
use mathlib.Core.List.{List}
use Prim.Native.Nat.{ℕ, ◌+◌, ◌<◌, ◌≤◌}
use native.Mathlib.Omega.{arith}
use lib.ListN.{length, get_or, set, length-set, replicate}
use lib.Seq.{get_or-set_same, get_or-set_other}
use borrow.Author.Count.{below_more}
use Rattle.limits.specs.Limit.{limit}
use Rattle.rows.proofs.Parts.{zeros}
use Rattle.model.specs.Table.{Table}
use Rattle.columns.specs.Columns.{parent_number, arm_number, source_number, sync_number, place_number, kind_number, order_number, Column}

-- the first b entries say f, of as many as a table can have records; the others are 0
pub record Filled (b : ℕ) (f : ℕ → ℕ) (column : List ℕ) : Type 0 where
  pub size : length column ≡ limit
  pub says : (k : ℕ) → k < b → get_or column k 0 ≡ f k
  pub rest : (k : ℕ) → b ≤ k → get_or column k 0 ≡ 0

pub filled_none : {f : ℕ → ℕ} → Filled 0 f (replicate limit 0)
filled_none = record { size = refl; says = λ k l. absurd (omega arith); rest = λ k l. zeros limit k }

pub filled_more : {b : ℕ} {f : ℕ → ℕ} {column : List ℕ} (v : ℕ) → b < limit → v ≡ f b → Filled b f column → Filled (b + 1) f (set column b v)
filled_more {b} {f} {column} v l e p = record {
  size = length-set column b v ∙ p.size;
  says =
      below_more (λ k. get_or (set column b v) k 0 ≡ f k) b (λ k j. get_or-set_other column b k v 0 (λ q. omega (arith, q)) ∙ p.says k j)
      (get_or-set_same column b v 0 (omega (arith, p.size)) ∙ e);
  rest = λ k h. get_or-set_other column b k v 0 (λ q. omega (arith, q)) ∙ p.rest k (omega arith);
}

pub filled_column : {b n : ℕ} {f : ℕ → ℕ} {column : List ℕ} → b ≡ n → n ≤ limit → Filled b f column → Column n f column
filled_column e l p = record { long = omega (arith, p.size); says = λ k h. p.says k (omega arith) }

pub filled_rest : {b n : ℕ} {f : ℕ → ℕ} {column : List ℕ} → b ≡ n → Filled b f column → (k : ℕ) → n ≤ k → get_or column k 0 ≡ 0
filled_rest e p k h = p.rest k (omega arith)

-- all columns of the table t, as far as its first b records
pub record FilledTo (t : Table) (b : ℕ) (parent arm source sync place kind order : List ℕ) : Type 0 where
  pub parents : Filled b (parent_number t) parent
  pub arms : Filled b (arm_number t) arm
  pub sources : Filled b (source_number t) source
  pub syncs : Filled b (sync_number t) sync
  pub places : Filled b (place_number t) place
  pub kinds : Filled b (kind_number t) kind
  pub orders : Filled b (order_number t) order

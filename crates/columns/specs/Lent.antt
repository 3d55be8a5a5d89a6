-- Columns, lent.
use Rattle.std.specs.Prelude.{◌≡◌}
use Rattle.columns.specs.declared.Fields.{Fields}
use Rattle.columns.specs.declared.View.{View}

-- each slice is that array
pub record Lent (x : Fields) (v : View) : Type 0 where
  pub parent : v.parent.now ≡ x.parent
  pub arm : v.arm.now ≡ x.arm
  pub source : v.source.now ≡ x.source
  pub sync : v.sync.now ≡ x.sync
  pub place : v.place.now ≡ x.place
  pub kind : v.kind.now ≡ x.kind
  pub order : v.order.now ≡ x.order

-- Columns that are lent say what they said.
use Prim.Native.Nat.{ℕ}
use Rattle.model.specs.Table.{Table}
use Rattle.columns.specs.declared.Fields.{Fields}
use Rattle.columns.specs.declared.View.{View}
use Rattle.columns.specs.Columns.{Columns}
use Rattle.columns.specs.Lent.{Lent}

pub lent_columns :
    {t : Table} {n : ℕ} {x : Fields} {v : View} → Lent x v → Columns t n x.parent x.arm x.source x.sync x.place x.kind x.order
    → Columns t n v.parent.now v.arm.now v.source.now v.sync.now v.place.now v.kind.now v.order.now
lent_columns l c = rw l.parent (rw l.arm (rw l.source (rw l.sync (rw l.place (rw l.kind (rw l.order c))))))

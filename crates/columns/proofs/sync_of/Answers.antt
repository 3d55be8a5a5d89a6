-- `sync_of` meets its contract: the source of b, where the two orders synchronise.
use mathlib.Core.Path.{◌≡◌, refl, sym, ap, ap₂, ◌∙◌}
use mathlib.Core.Bool.{Bool, true, false, ◌&&◌}
use mathlib.Core.List.{List}
use Prim.Native.Nat.{ℕ, ◌<◌, ◌≤◌}
use native.Mathlib.Omega.{arith}
use borrow.Author.Tests.{lt-ltb, le-ltb}
use lib.Dec.{ltb, leb}
use Rattle.record.specs.Form.{pick, order_byte, part}
use Rattle.facts.proofs.Records.{one_of}
use Rattle.columns.specs.Columns.{no_number}
use Rattle.columns.specs.Codes.{acquires_code, sync_from}
use Rattle.columns.proofs.sync_of.Goals as goal

module _ (table : List ℕ) (b source order : ℕ) where
  abbrev released : ℕ
  released = order_byte (part table source)

  decided : (x y : Bool) → ltb source b ≡ x → (acquires_code order && leb 2 released) ≡ y → pick x (pick y source no_number) no_number ≡ sync_from b source order released
  decided x y p q = sym (ap₂ (λ (u v : Bool). pick u (pick v source no_number) no_number) p q)

  module _ (s : ℕ) (e : s ≡ source) where
    -- what was asked is what the definition asks
    asked : (a : Bool) (o : ℕ) → a ≡ acquires_code order → o ≡ order_byte (part table s) → (acquires_code order && leb 2 released) ≡ (a && leb 2 o)
    asked a o f g = sym (ap₂ (λ (x : Bool) (y : ℕ). x && leb 2 y) f (g ∙ ap (λ (z : ℕ). order_byte (part table z)) e))

    earlier : s < b → ltb source b ≡ true
    earlier l = lt-ltb source b (omega (arith, e, l))

    later : b ≤ s → ltb source b ≡ false
    later l = le-ltb source b (omega (arith, e, l))

pub byte-requires : goal.byte-requires
byte-requires c = let pre = c.requires in (one_of pre.0 (omega (arith, pre.1, c.if-s-b.true)), omega arith)

pub returns-then-acquires-byte : goal.returns-then-acquires-byte
returns-then-acquires-byte c = let entry = c.args in
    let e = c.wide-s.ensures in
    decided entry.table.now entry.b entry.source entry.order true true (earlier entry.table.now entry.b entry.source entry.order _ e c.if-s-b.true)
    (asked entry.table.now entry.b entry.source entry.order _ e _ _ c.acquires.ensures c.byte.ensures ∙ c.if-acquires-byte.true)

pub returns-else-acquires-byte : goal.returns-else-acquires-byte
returns-else-acquires-byte c = let entry = c.args in
    let e = c.wide-s.ensures in
    decided entry.table.now entry.b entry.source entry.order true false (earlier entry.table.now entry.b entry.source entry.order _ e c.if-s-b.true)
    (asked entry.table.now entry.b entry.source entry.order _ e _ _ c.acquires.ensures c.byte.ensures ∙ c.if-acquires-byte.false)

pub returns-else-s-b : goal.returns-else-s-b
returns-else-s-b c = let entry = c.args in
    decided entry.table.now entry.b entry.source entry.order false _ (later entry.table.now entry.b entry.source entry.order _ c.wide-s.ensures c.if-s-b.false) refl

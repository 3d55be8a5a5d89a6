-- A reader's functions have one answer: any two results that a contract allows are equal.
use mathlib.Core.Path.{◌≡◌, sym, ◌∙◌}
use mathlib.Core.List.{List}
use Prim.Native.Nat.{ℕ}
use denote.Ref.{Bor}
use Rattle.batches.specs.declared.Item.{Item}
use Rattle.batches.specs.Batch.{standing, stands_at}
use Rattle.batches.specs.Reading.{bytes_of, place_after}
use Rattle.batches.proofs.Unique.{item_one}
use Rattle.reader.specs.declared.Reader.{Reader}

-- a reader is known by its batch and its place
reader_one : (x y : Reader) → x.batch ≡ y.batch → x.at ≡ y.at → x ≡ y
reader_one x y same place = λ i. record { batch = same i; at = place i }

pub new_once : (batch : Bor (List ℕ)) (x y : Reader) → (x.batch ≡ batch) × (x.at ≡ 0) → (y.batch ≡ batch) × (y.at ≡ 0) → x ≡ y
new_once batch x y p q = reader_one x y (p.0 ∙ sym q.0) (p.1 ∙ sym q.1)

module _ (self : Reader) where
  pub item_once : (x y : Item) → standing x ≡ stands_at self.batch.now self.at → standing y ≡ stands_at self.batch.now self.at → x ≡ y
  item_once x y p q = item_one x y (p ∙ sym q)

  -- a part is known by its bytes
  pub table_once :
      (x y : Bor (List ℕ)) → x.now ≡ bytes_of self.batch.now (stands_at self.batch.now self.at)
      → y.now ≡ bytes_of self.batch.now (stands_at self.batch.now self.at) → x.now ≡ y.now
  table_once x y p q = p ∙ sym q

  pub next_once :
      (x y : Reader) → (x.batch ≡ self.batch) × (x.at ≡ place_after self.at (stands_at self.batch.now self.at))
      → (y.batch ≡ self.batch) × (y.at ≡ place_after self.at (stands_at self.batch.now self.at)) → x ≡ y
  next_once x y p q = reader_one x y (p.0 ∙ sym q.0) (p.1 ∙ sym q.1)

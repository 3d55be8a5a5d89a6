-- The code's values are known by what they say: an ending by how the batch ends, an item by what stands there.
use mathlib.Core.Path.{◌≡◌, refl, sym, ap, ◌∙◌}
use Prim.Native.Nat.{ℕ}
use native.Mathlib.Omega.{arith}
use Rattle.std.proofs.Common.{Result, Ok, Err}
use Rattle.refusals.specs.declared.Refusal.{Refusal}
use Rattle.refusals.specs.Numbers.{told}
use Rattle.refusals.proofs.Known.{told_one}
use Rattle.batches.specs.declared.Item.{Item}
use Rattle.batches.specs.declared.Item.TheVariants.{Table, Ended}
use Rattle.batches.specs.Batch.{Standing, table, end, end_of, standing}

pub ending_one : (x y : Result (Unit {0}) Refusal) → end_of x ≡ end_of y → x ≡ y
ending_one (Ok _) (Ok _) e = refl
ending_one (Ok _) (Err s) e = absurd (let z : ◌≡◌ {A = ℕ} 0 1 = cc in omega arith)
ending_one (Err r) (Ok _) e = absurd (let z : ◌≡◌ {A = ℕ} 0 1 = cc in omega arith)
ending_one (Err r) (Err s) e = ap Err (told_one r s same)
  where
    same : told r ≡ told s
    same = cc

pub item_one : (x y : Item) → standing x ≡ standing y → x ≡ y
item_one (Table f t) (Table g u) e =
    let start : f ≡ g = cc in
    let stop : t ≡ u = cc in
    cc
item_one (Table f t) (Ended y) e = absurd (let z : ◌≡◌ {A = ℕ} 0 1 = cc in omega arith)
item_one (Ended x) (Table g u) e = absurd (let z : ◌≡◌ {A = ℕ} 0 1 = cc in omega arith)
item_one (Ended x) (Ended y) e = ap Ended (ending_one x y same)
  where
    same : end_of x ≡ end_of y
    same = cc

-- ---- what stands there, from the code's value

pub table_stands : {x : Item} {s : Standing} {from to : ℕ} → standing x ≡ s → x ≡ Table from to → s ≡ table from to
table_stands p is = sym p ∙ ap standing is

pub end_stands : {x : Item} {s : Standing} {e : Result (Unit {0}) Refusal} → standing x ≡ s → x ≡ Ended e → s ≡ end (end_of e)
end_stands p is = sym p ∙ ap standing is

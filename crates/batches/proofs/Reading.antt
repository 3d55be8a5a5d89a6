-- What a reader that goes from table to table does: it moves on within the batch, and passes the batch's tables, each of four bytes or more.
use mathlib.Core.Path.{◌≡◌, refl}
use mathlib.Core.Bool.{true, false}
use mathlib.Core.List.{List, [], ◌∷◌, ◌++◌}
use Prim.Native.Nat.{ℕ, ◌+◌, ◌*◌, ◌≤◌}
use native.Mathlib.Omega.{arith}
use lib.ListN.{length}
use Rattle.batches.specs.Batch.{most, End, Standing, table, end, stands_at, HoldsFrom, no_more, one_more, Holds}
use Rattle.batches.specs.Reading.{is_table, bytes_of, place_after}
use Rattle.batches.proofs.Standing.{inside}
use Rattle.batches.proofs.Passed.{Passed, passed_one}

-- past a table the place has grown by its header at least, and is within the batch
pub record Grows (b : List ℕ) (place after : ℕ) : Type 0 where
  pub header : place + 4 ≤ after
  pub within : after ≤ length b

never_table : {A : Type 0} → false ≡ true → A
never_table t = absurd (let z : ◌≡◌ {A = ℕ} 0 1 = cc in omega arith)

module _ (b : List ℕ) (place : ℕ) where
  pub grows : is_table (stands_at b place) ≡ true → Grows b place (place_after place (stands_at b place))
  grows = by (stands_at b place) refl
    where
      by : (s : Standing) → stands_at b place ≡ s → is_table s ≡ true → Grows b place (place_after place s)
      by (table from to) is t = let i = inside place is in record { header = omega arith; within = omega arith }
      by (end e) is t = never_table t

  pub read_on :
      {tables : List (List ℕ)} → Passed b place tables → is_table (stands_at b place) ≡ true
      → Passed b (place_after place (stands_at b place)) (tables ++ (bytes_of b (stands_at b place) ∷ []))
  read_on {tables} p = by (stands_at b place) refl
    where
      by : (s : Standing) → stands_at b place ≡ s → is_table s ≡ true → Passed b (place_after place s) (tables ++ (bytes_of b s ∷ []))
      by (table from to) is t = passed_one b place p from to is
      by (end e) is t = never_table t

-- ---- how many tables a batch can hold

few_from : {b : List ℕ} {place : ℕ} {tables : List (List ℕ)} {e : End} → HoldsFrom b place tables e → place ≤ length b → place + 4 * length tables ≤ length b
few_from (no_more _) h = omega arith
few_from (one_more {place} is rest) h =
    let i = inside place is in
    let more = few_from rest i.within in
    omega arith

-- one of 60,000 bytes 15,000; a longer one none
pub few_tables : {b : List ℕ} {tables : List (List ℕ)} {e : End} → Holds b tables e → 4 * length tables ≤ most
few_tables {b} h = go h.all (few_from h.all (omega arith))
  where
    go : {place : ℕ} {tables : List (List ℕ)} {e : End} → HoldsFrom b place tables e → place + 4 * length tables ≤ length b → 4 * length tables ≤ most
    go (no_more _) within = omega arith
    go (one_more {place} is _) within = let i = inside place is in omega arith

-- `rules::first_fault` meets its contract: each way out by what the tests before it said.
use Rattle.std.specs.Prelude.{Err}
use mathlib.Core.Path.{◌≡◌, refl, sym, ap, ◌∙◌}
use mathlib.Core.Bool.{Bool, true, false}
use mathlib.Core.List.{List}
use Prim.Native.Nat.{ℕ, suc, ◌<◌, ◌≤◌}
use native.Mathlib.Omega.{arith}
use lib.Dec.{leb}
use borrow.Author.Tests.{le-leb, lt-leb}
use Rattle.refusals.specs.declared.Fault.TheVariants.{Rest}
use Rattle.record.specs.Form.{kind_byte, order_byte, thread_byte, location_byte, marked, in_row, least_restless, record_from, decided_by, decode}
use Rattle.record.proofs.Exact.{decided_so}
use Rattle.record.proofs.Resting.{all_rest, one_restless}
use Rattle.record.proofs.rules.first_fault.Goals as goal

few : {x : ℕ} (most : ℕ) → x < suc most → leb x most ≡ true
few {x} most h = le-leb x most (omega arith)

above : {x : ℕ} (most : ℕ) → suc most ≤ x → leb x most ≡ false
above {x} most h = lt-leb x most (omega arith)

-- past the rest
past_rest :
    (b : List ℕ) {marked_at in_row_at t l : Bool} →
    marked_at ≡ marked b → marked_at ≡ true → kind_byte b < 4 → in_row_at ≡ in_row (kind_byte b) (order_byte b) → in_row_at ≡ true → 16 ≤ least_restless b → leb (thread_byte b) 15 ≡ t → leb (location_byte b) 31 ≡ l → decode b ≡ decided_by true true true true t l (least_restless b) (record_from b)
past_rest b m mark k r row rest = decided_so b (sym m ∙ mark) (few 3 k) (sym r ∙ row) (all_rest b rest)

-- ---- the ways out

pub returns-then-not-marked_at : goal.returns-then-not-marked_at
unfolding decided_by
returns-then-not-marked_at c = decided_so _ (sym c.marked_at.ensures ∙ c.if-not-marked_at.true) refl refl refl refl refl

pub returns-then-b-ge4 : goal.returns-then-b-ge4
unfolding decided_by
returns-then-b-ge4 c = decided_so _ (sym c.marked_at.ensures ∙ c.if-not-marked_at.false) (above 3 c.if-b-ge4.true) refl refl refl refl

pub returns-then-not-in_row : goal.returns-then-not-in_row
unfolding decided_by
returns-then-not-in_row c =
    decided_so _ (sym c.marked_at.ensures ∙ c.if-not-marked_at.false) (few 3 c.if-b-ge4.false) (sym c.in_row.ensures ∙ c.if-not-in_row.true) refl refl refl

pub returns-then-restless-lt-SIZE : goal.returns-then-restless-lt-SIZE
unfolding decided_by
returns-then-restless-lt-SIZE c = let b = c.args.b.now in
    let least = c.least_restless-restless.ensures in
    decided_so b (sym c.marked_at.ensures ∙ c.if-not-marked_at.false) (few 3 c.if-b-ge4.false) (sym c.in_row.ensures ∙ c.if-not-in_row.false) (one_restless b (omega (arith, c.if-restless-lt-SIZE.true, least))) refl refl
    ∙ ap (λ (i : ℕ). Err (Rest i)) (sym least)

pub returns-then-b-ge16 : goal.returns-then-b-ge16
unfolding decided_by
returns-then-b-ge16 c =
    past_rest _ c.marked_at.ensures c.if-not-marked_at.false c.if-b-ge4.false c.in_row.ensures c.if-not-in_row.false (omega (arith, c.if-restless-lt-SIZE.false, c.least_restless-restless.ensures)) (above 15 c.if-b-ge16.true) refl

pub returns-then-b-ge32 : goal.returns-then-b-ge32
unfolding decided_by
returns-then-b-ge32 c =
    past_rest _ c.marked_at.ensures c.if-not-marked_at.false c.if-b-ge4.false c.in_row.ensures c.if-not-in_row.false (omega (arith, c.if-restless-lt-SIZE.false, c.least_restless-restless.ensures)) (few 15 c.if-b-ge16.false) (above 31 c.if-b-ge32.true)

pub returns : goal.returns
unfolding decided_by
returns c =
    past_rest _ c.marked_at.ensures c.if-not-marked_at.false c.if-b-ge4.false c.in_row.ensures c.if-not-in_row.false (omega (arith, c.if-restless-lt-SIZE.false, c.least_restless-restless.ensures)) (few 15 c.if-b-ge16.false) (few 31 c.if-b-ge32.false)

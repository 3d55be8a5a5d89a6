-- `rules::in_row` meets its contract: the word's bits are the table's flags, and past its four rows and five columns nothing is allowed.
use mathlib.Core.Path.{◌≡◌, refl}
use mathlib.Core.List.{[]}
use Prim.Native.Nat.{ℕ, zero, suc, ◌+◌, ◌*◌, ◌/◌, ◌%◌, ◌^◌, ◌<◌, ◌≤◌}
use lib.Dec.{eqb}
use lib.ListN.{get_or, get_or-eq_default}
use Rattle.record.specs.Form.{in_row, rows}
use Rattle.record.proofs.Cases.{four, five}
use Rattle.record.proofs.rules.in_row.Goals as goal

past_row : (k o : ℕ) → 5 ≤ o → get_or (get_or rows k []) o 0 ≡ 0
past_row zero o h = get_or-eq_default (get_or rows 0 []) 0 h
past_row (suc zero) o h = get_or-eq_default (get_or rows 1 []) 0 h
past_row (suc (suc zero)) o h = get_or-eq_default (get_or rows 2 []) 0 h
past_row (suc (suc (suc zero))) o h = get_or-eq_default (get_or rows 3 []) 0 h
past_row (suc (suc (suc (suc k)))) o h = refl

-- the word says of the kind k and the order o what the table does
abbrev Told : ℕ → ℕ → Type 0
Told k o = eqb (0b11000_10101_10011_00001 / 2 ^ (5 * k + o) % 2) 1 ≡ in_row k o

told : (k o : ℕ) → k < 4 → o < 5 → Told k o
unfolding in_row
told k o l h = four (λ (m : ℕ). Told m o) (of 0 refl refl refl refl refl) (of 1 refl refl refl refl refl) (of 2 refl refl refl refl refl) (of 3 refl refl refl refl refl) k l
  where
    of : (m : ℕ) → Told m 0 → Told m 1 → Told m 2 → Told m 3 → Told m 4 → Told m o
    of m p q r s t = five (Told m) p q r s t o h

pub returns-then-kind-ge4 : goal.returns-then-kind-ge4
unfolding in_row
returns-then-kind-ge4 c = let no_row : get_or rows c.args.kind [] ≡ [] = get_or-eq_default rows [] c.if-kind-ge4.true in
    simp no_row

pub returns-then-order-ge5 : goal.returns-then-order-ge5
unfolding in_row
returns-then-order-ge5 c = simp (past_row c.args.kind c.args.order c.if-order-ge5.true)

pub returns : goal.returns
unfolding in_row
returns c = told _ _ c.if-kind-ge4.false c.if-order-ge5.false

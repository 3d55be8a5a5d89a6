-- Every selection of a table's records has one cut.
use mathlib.Core.Path.{◌≡◌, refl, sym, ap, ◌∙◌}
use mathlib.Core.Bool.{Bool, true, false}
use Prim.Native.Nat.{ℕ}
use native.Mathlib.Omega.{arith}
use native.Mathlib.Decide.{dec_lt}
use lib.Dec.{T, ltb}
use Rattle.events.specs.declared.Record.{Record}
use Rattle.laws.proofs.Says.{says_lt}
use Rattle.model.specs.Table.{Table, inert, Inside}
use Rattle.model.specs.Cut.{renumbered, new_number, CutOf}
use Rattle.model.proofs.CutNumbers.{old_number, new_below, old_new}
use Rattle.model.proofs.Cutting.{cut_record}

-- a record where the test passes, nothing where it fails
abbrev record_if : Bool → Record → Record
record_if true r = r
record_if false r = inert

record_if_lem : (b : Bool) (r : Record) → T b → record_if b r ≡ r
record_if_lem true r h = refl
record_if_lem false r h = absurd h

nothing_unless : (b : Bool) (r : Record) → ¬ T b → record_if b r ≡ inert
nothing_unless true r h = absurd (h tt)
nothing_unless false r h = refl

pub cut_exists : (k : ℕ → Bool) (t : Table) → (t' : Table) × CutOf k t t'
cut_exists k t = (
  record { count = count; at = λ i. record_if (ltb i count) (old i) },
  record {
    count = refl;
    kept = λ n l h.
        record_if_lem (ltb (new_number k n) count) (old (new_number k n)) ((says_lt (new_number k n) count).from (new_below k n t.count l h))
        ∙ ap (λ (m : ℕ). renumbered (new_number k) (t.at m)) (old_new k t.count n l h);
    ends = record { past = λ n l. nothing_unless (ltb n count) (old n) (λ h. absurd (omega (arith, (says_lt n count).to h))) };
  },
)
  where
    count : ℕ
    count = new_number k t.count

    old : ℕ → Record
    old i = renumbered (new_number k) (t.at (old_number k t.count i))

pub cut_one : (k : ℕ → Bool) (t t' t'' : Table) → CutOf k t t' → CutOf k t t'' → t' ≡ t''
cut_one k t t' t'' C D = λ j. record { count = same_count j; at = λ i. same_record i j }
  where
    same_count : t'.count ≡ t''.count
    same_count = C.count ∙ sym D.count

    same_record : (i : ℕ) → t'.at i ≡ t''.at i
    same_record i = go (dec_lt i t'.count)
      where
        go : Dec (Inside t' i) → t'.at i ≡ t''.at i
        go (yes l) = cut_record k t t' C i l ∙ sym (cut_record k t t'' D i (omega (arith, same_count)))
        go (no l) = C.ends.past i (omega arith) ∙ sym (D.ends.past i (omega (arith, same_count)))

-- The column of new numbers, made one after another.
use mathlib.Core.Path.{◌≡◌, refl, sym, ap, ◌∙◌}
use mathlib.Core.Bool.{Bool}
use mathlib.Core.List.{List}
use Prim.Native.Nat.{ℕ, ◌+◌, ◌<◌}
use native.Mathlib.Numerals.{add-one}
use native.Mathlib.Omega.{arith}
use lib.ListN.{length, set}
use lib.Seq.{get_or-set_same, get_or-set_other}
use borrow.Author.Count.{below_more}
use Rattle.model.specs.Cut.{one_more_if, new_number}
use Rattle.edit.specs.Columns.{number_in, Numbered}

pub numbered_none : {k : ℕ → Bool} {numbers : List ℕ} → Numbered k 0 numbers 0
numbered_none = record { each = λ m h. absurd (omega arith); next = refl }

pub numbered_more :
    {k : ℕ → Bool} {n next r : ℕ} {numbers : List ℕ} → n < length numbers → Numbered k n numbers next → r ≡ one_more_if (k n) next → Numbered k (n + 1) (set numbers n next) r
numbered_more {k} {n} {next} {r} {numbers} h p e = record {
  each =
      below_more (λ (m : ℕ). number_in (set numbers n next) m ≡ new_number k m) n
      (λ m l. get_or-set_other numbers n m next 0 (λ q. omega (arith, q)) ∙ p.each m l)
      (get_or-set_same numbers n next 0 h ∙ p.next);
  next = e ∙ (ap (one_more_if (k n)) p.next ∙ sym (ap (new_number k) (add-one n)));
}

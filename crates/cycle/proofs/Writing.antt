-- A cycle that is written record by record: the least next one from which a walk of so many steps is left.
use mathlib.Core.Path.{◌≡◌, refl, ap, subst, ◌∙◌}
use mathlib.Core.List.{List, [], ◌∷◌, ◌++◌, append_assoc, append-nil}
use Prim.Native.Nat.{ℕ, suc, ◌+◌, ◌<◌, ◌≤◌}
use native.Mathlib.Omega.{arith}
use native.Mathlib.Numerals.{add-one}
use lib.ListN.{length, length-append, get_or, set, drop}
use lib.Seq.{drop-cons, set_at, drop-set-lt}
use Rattle.laws.specs.Steps.{Rel, Walk}
use Rattle.laws.specs.Tails.{LeastTail}
use Rattle.laws.proofs.Walks.{last_step, chosen}
use Rattle.cycle.specs.Distances.{Wrote}

-- a is the number of place i - 1, p is chosen before it, and what is least from a makes the whole least
pub record Writing (R : Rel) (s len : ℕ) (before out : List ℕ) (a i : ℕ) : Type 0 where
  pub p : List ℕ
  pub long : length p + 1 ≡ i
  pub holds : out ≡ s ∷ (p ++ drop i before)
  pub more : (k : ℕ) (t : List ℕ) → k + i ≡ len + 1 → LeastTail R s a k t → LeastTail R s s len (p ++ t)

first_out : (o : List ℕ) (s : ℕ) → 0 < length o → set o 0 s ≡ s ∷ drop 1 (set o 0 s)
first_out [] s h = absurd (omega arith)
first_out (x ∷ o) s h = refl

pub writing_first : {R : Rel} {s len : ℕ} (o : List ℕ) → 0 < length o → Writing R s len (set o 0 s) (set o 0 s) s 1
writing_first {R} {s} o h =
    record { p = []; long = refl; holds = first_out o s h; more = λ k t e l. subst (λ (x : ℕ). LeastTail R s s x t) (omega arith) l }

module _ {R : Rel} {s len : ℕ} where
  -- x is the least number with a step from a and the steps that are left after it
  pub writing_on :
      {before out : List ℕ} {a i x : ℕ} → i < length before → R a x → ((y : ℕ) (xs : List ℕ) → R a y → Walk R y xs s → length xs + 1 + i ≡ len → x ≤ y)
      → Writing R s len before out a i → Writing R s len before (set out i x) x (i + 1)
  writing_on {before} {out} {a} {i} {x} room r first w =
      record {
        p = w.p ++ (x ∷ []);
        long = omega (arith, length-append w.p (x ∷ []), w.long);
        holds =
            ap (λ (o : List ℕ). set o i x) (w.holds ∙ ap (λ (l : List ℕ). s ∷ (w.p ++ l)) (drop-cons before i 0 room))
            ∙ set_at (s ∷ w.p) (get_or before i 0) (drop (suc i) before) x i (omega (arith, w.long))
            ∙ rw (add-one, append_assoc);
        more = λ k t e l. rw append_assoc (w.more (k + 1) (x ∷ t) (omega arith) (chosen R r l (λ y xs q v h. first y xs q v (omega arith))));
      }

  -- the last number steps back to the start
  pub writing_close : {a : ℕ} {o out : List ℕ} → 1 ≤ len → R a s → Writing R s len (set o 0 s) out a len → Wrote R s len o out
  writing_close {o = o} h1 r w = record {
    list = w.p ++ [];
    tail = w.more 1 [] (omega arith) (last_step R r);
    holds = w.holds ∙ rw (append-nil, drop-set-lt len o 0 s (omega arith));
  }

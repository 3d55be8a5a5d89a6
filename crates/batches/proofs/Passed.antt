-- The tables that were passed on the way to a place of a batch, for a loop over its places.
use mathlib.Core.Path.{◌≡◌, sym, subst}
use mathlib.Core.List.{List, [], ◌∷◌, ◌++◌, append_assoc, append-nil}
use Prim.Native.Nat.{ℕ}
use Rattle.batches.specs.Batch.{End, table, end, stands_at, part, HoldsFrom, no_more, one_more, Holds}

-- whatever stands from the place on stands in the batch after these tables
pub record Passed (b : List ℕ) (place : ℕ) (tables : List (List ℕ)) : Type 0 where
  pub then : (more : List (List ℕ)) (e : End) → HoldsFrom b place more e → HoldsFrom b 0 (tables ++ more) e

module _ (b : List ℕ) where
  pub passed_none : Passed b 0 []
  passed_none = record { then = λ more e h. h }

  module _ (place : ℕ) {tables : List (List ℕ)} (p : Passed b place tables) where
    pub passed_one : (from to : ℕ) → stands_at b place ≡ table from to → Passed b to (tables ++ (part b from to ∷ []))
    passed_one from to is = record {
      then = λ more e h.
          subst (λ (l : List (List ℕ)). HoldsFrom b 0 l e)
          (sym (append_assoc tables (part b from to ∷ []) more))
          (p.then (part b from to ∷ more) e (one_more is h));
    }

    pub passed_all : {e : End} → stands_at b place ≡ end e → Holds b tables e
    passed_all {e} is = record { all = subst (λ (l : List (List ℕ)). HoldsFrom b 0 l e) (append-nil tables) (p.then [] e (no_more is)) }

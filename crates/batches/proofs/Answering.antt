-- Answers over a batch: one list of them, and the answers of two batches joined.
use mathlib.Core.Path.{◌≡◌, refl, ap₂, subst}
use mathlib.Core.List.{List, [], ◌∷◌, ◌++◌}
use Prim.Native.Nat.{ℕ, ◌≤◌}
use lib.ListN.{length}
use Rattle.batches.specs.Batch.{most, End, cleanly, moved_on}
use Rattle.batches.specs.Answers.{Each, none_left, and_then, AnswersOf}
use Rattle.batches.proofs.Whole.{holds_one}
use Rattle.batches.proofs.Joined.{joined}

-- the same answers, and the same end
pub record SameAnswers {A : Type 0} (x y : List A) (e f : End) : Type 0 where
  pub answers : x ≡ y
  pub ending : e ≡ f

module _ {A : Type 0} (Of : List ℕ → A → Type 0) where
  pub each_join : {ts us : List (List ℕ)} {xs ys : List A} → Each Of ts xs → Each Of us ys → Each Of (ts ++ us) (xs ++ ys)
  each_join none_left q = q
  each_join (and_then x p) q = and_then x (each_join p q)

  pub each_last : {ts : List (List ℕ)} {xs : List A} {t : List ℕ} {x : A} → Each Of ts xs → Of t x → Each Of (ts ++ (t ∷ [])) (xs ++ (x ∷ []))
  each_last p x = each_join p (and_then x none_left)

  -- "Two batches joined", the first ending cleanly: the answers of the first, then of the second
  pub answers_joined :
      {a b : List ℕ} {xs ys : List A} {e : End} → length (a ++ b) ≤ most → AnswersOf Of a xs cleanly → AnswersOf Of b ys e
      → AnswersOf Of (a ++ b) (xs ++ ys) (moved_on (length a) e)
  answers_joined {a} {b} within p q = record {
    tables = p.tables ++ q.tables;
    holds = joined a b within p.holds q.holds;
    each = each_join p.each q.each;
  }

  -- where a table has one answer
  module _ (one : (t : List ℕ) (x y : A) → Of t x → Of t y → x ≡ y) where
    each_one : {ts : List (List ℕ)} {xs ys : List A} → Each Of ts xs → Each Of ts ys → xs ≡ ys
    each_one none_left none_left = refl
    each_one (and_then {table = t} {answer = x} p ps) (and_then {answer = y} q qs) = ap₂ ◌∷◌ (one t x y p q) (each_one ps qs)

    pub answers_one : {b : List ℕ} {xs ys : List A} {e f : End} → AnswersOf Of b xs e → AnswersOf Of b ys f → SameAnswers xs ys e f
    answers_one {ys = ys} p q =
        let same = holds_one p.holds q.holds in
        record {
          answers = each_one (subst (λ (ts : List (List ℕ)). Each Of ts _) same.list p.each) q.each;
          ending = same.ending;
        }

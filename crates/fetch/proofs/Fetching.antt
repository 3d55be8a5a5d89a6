-- The two questions of a fetch agree, and each has one answer.
use Rattle.std.specs.Prelude.{Err, Ok, Result}
use mathlib.Core.Path.{◌≡◌, refl, sym, ap}
use mathlib.Core.Bool.{Bool, true, false, ◌&&◌}
use mathlib.Core.List.{List, []}
use Prim.Native.Nat.{ℕ, ◌<◌}
use native.Mathlib.Omega.{arith}
use lib.Dec.{T, ltb}
use lib.ListN.{length}
use borrow.Author.Tests.{lt-ltb, le-ltb}
use Rattle.refusals.specs.declared.Refusal.{Refusal}
use Rattle.refusals.proofs.Known.{same_refusal}
use Rattle.record.specs.Form.{pick, part}
use Rattle.table.specs.Events.{count_of}
use Rattle.table.specs.Test.{length_ok}
use Rattle.fetch.specs.Fetched.{fetched, FetchAnswer, given, refused_1, refused_13}

both : {A : Type 0} (a b : Bool) (x y : A) → T a → b ≡ true → pick (a && b) x y ≡ x
both true b x y h e = rw e
both false b x y h e = absurd h

first_fails : {A : Type 0} (a b : Bool) (x y : A) → ¬ T a → pick (a && b) x y ≡ y
first_fails true b x y h = absurd (h tt)
first_fails false b x y h = refl

second_fails : {A : Type 0} (a b : Bool) (x y : A) → b ≡ false → pick (a && b) x y ≡ y
second_fails true b x y e = rw e
second_fails false b x y e = refl

module _ {b : List ℕ} {n : ℕ} where
  pub fetched_given : FetchAnswer b n (Ok tt) → part b n ≡ fetched b n
  unfolding fetched
  fetched_given (given ok h) = sym (both (length_ok (length b)) (ltb n (count_of b)) (part b n) [] ok (lt-ltb n (count_of b) h))

  pub fetched_refused : {r : Refusal} → FetchAnswer b n (Err r) → [] ≡ fetched b n
  unfolding fetched
  fetched_refused (refused_1 wrong _) = sym (first_fails (length_ok (length b)) (ltb n (count_of b)) (part b n) [] wrong)
  fetched_refused (refused_13 _ past _) =
      sym (second_fails (length_ok (length b)) (ltb n (count_of b)) (part b n) [] (le-ltb n (count_of b) past))

  pub given_below : FetchAnswer b n (Ok tt) → n < count_of b
  given_below (given _ h) = h

  pub fetch_one : {x y : Result (Unit {0}) Refusal} → FetchAnswer b n x → FetchAnswer b n y → x ≡ y
  fetch_one (given _ _) (given _ _) = refl
  fetch_one (given ok _) (refused_1 wrong _) = absurd (wrong ok)
  fetch_one (given _ h) (refused_13 _ past _) = absurd (omega arith)
  fetch_one (refused_1 wrong _) (given ok _) = absurd (wrong ok)
  fetch_one (refused_1 _ e) (refused_1 _ h) = ap Err (same_refusal e h)
  fetch_one (refused_1 wrong _) (refused_13 ok _ _) = absurd (wrong ok)
  fetch_one (refused_13 _ past _) (given _ h) = absurd (omega arith)
  fetch_one (refused_13 ok _ _) (refused_1 wrong _) = absurd (wrong ok)
  fetch_one (refused_13 _ _ e) (refused_13 _ _ h) = ap Err (same_refusal e h)

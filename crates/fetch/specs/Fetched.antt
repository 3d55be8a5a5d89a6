-- Fetching a record: its own sixteen bytes or an empty part, and whether the fetch is refused.
use Rattle.std.specs.Prelude.{◌≡◌, ◌&&◌, List, [], ℕ, ◌<◌, ◌≤◌, T, ltb, length, Err, Ok, Result}
use Rattle.refusals.specs.declared.Refusal.{Refusal}
use Rattle.refusals.specs.Numbers.{at, told}
use Rattle.record.specs.Form.{pick, part}
use Rattle.table.specs.Events.{count_of}
use Rattle.table.specs.Test.{length_ok}

-- "hands back the record's own sixteen bytes in the caller's table, or an empty part"
unfoldable pub fetched : List ℕ → ℕ → List ℕ
fetched b n = pick (length_ok (length b) && ltb n (count_of b)) (part b n) []

-- "says whether the fetch is refused, and gives 1 or 13 with the place. Only those two are tested, in that order."
pub data FetchAnswer (b : List ℕ) (n : ℕ) : Result (Unit {0}) Refusal → Type 0 where
  given : T (length_ok (length b)) → n < count_of b → FetchAnswer b n (Ok tt)
  refused_1 : {r : Refusal} → ¬ T (length_ok (length b)) → told r ≡ at 1 0 → FetchAnswer b n (Err r)
  refused_13 :
      {r : Refusal} → T (length_ok (length b)) → count_of b ≤ n → told r ≡ at 13 n → FetchAnswer b n (Err r)

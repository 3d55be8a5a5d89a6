-- What a caller from C is told: what `write_answer` gives, the length of the answer as a number, and 0 where it has no room.
use Rattle.std.specs.Prelude.{List, ℕ, ◌≡◌, Result, Ok, Err}
use Rattle.refusals.specs.declared.Refusal.{Refusal}
use Rattle.lines.specs.Answer.{WriteAnswer}

abbrev pub length_told : Result ℕ Refusal → ℕ
length_told (Err r) = 0
length_told (Ok n) = n

abbrev pub WriteAnswerCalled : List ℕ → List ℕ → List ℕ → ℕ → Type 0
WriteAnswerCalled b before after n = (wrote : Result ℕ Refusal) × (WriteAnswer b before after wrote × (n ≡ length_told wrote))

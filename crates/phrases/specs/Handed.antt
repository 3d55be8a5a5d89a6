-- What writing a text into a lent buffer gives.
use Rattle.std.specs.Prelude.{◌≡◌, List, ◌++◌, ℕ, ◌<◌, ◌≤◌, length, take, drop, Result, Ok, Err}
use Rattle.refusals.specs.declared.Refusal.{Refusal}
use Rattle.refusals.specs.Numbers.{at, told}

-- ---- a text into a lent buffer; Such says which text it is

-- the text t
pub data IsText (t : List ℕ) : List ℕ → Type 0 where
  the_text : IsText t t

module _ (Such : List ℕ → Type 0) where
  -- it stands at the front of a buffer
  pub record Front (out : List ℕ) (len : ℕ) : Type 0 where
    pub text : Such (take len out)
    pub within : len ≤ length out

  -- "11 last, by what it would write; bytes past that stay. A refusal changes nothing lent."
  pub data Writes (before after : List ℕ) : Result ℕ Refusal → Type 0 where
    no_room : {text : List ℕ} {r : Refusal} → Such text → length before < length text → told r ≡ at 11 0 → after ≡ before → Writes before after (Err r)
    written : {text : List ℕ} {len : ℕ} → Such text → len ≡ length text → len ≤ length before → after ≡ text ++ drop len before → Writes before after (Ok len)

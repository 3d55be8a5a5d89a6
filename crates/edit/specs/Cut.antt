-- A cut: what it answers in document 01's order, and what the output holds then. k n says whether record n is kept; a selection names those.
use Rattle.std.specs.Prelude.{◌≡◌, Bool, List, [], ◌++◌, ℕ, zero, suc, ◌*◌, ◌≤◌, T, eqb, length, drop, set, None, Some, Err, Ok, Result}
use Rattle.refusals.specs.declared.Refusal.{Refusal}
use Rattle.refusals.specs.Numbers.{at, told}
use Rattle.laws.specs.Least.{LeastNumber}
use Rattle.selections.specs.Selection.{named, Refused9}
use Rattle.record.specs.Form.{record_size, pick, parent_byte, source_byte, part}
use Rattle.model.specs.Table.{Table, Inside}
use Rattle.model.specs.Relations.{EarlierRace}
use Rattle.model.specs.Cut.{new_number, Complete, CutOf, NoFaultInvented}
use Rattle.table.specs.Events.{events_of}
use Rattle.table.specs.Test.{TestAnswer}

-- ---- what is written

-- the byte of a link, with f for the new numbers: "255 for none"
abbrev pub renumbered_link : (ℕ → ℕ) → ℕ → ℕ
renumbered_link f link = pick (eqb link 255) 255 (f link)

-- "parent and source as the new numbers of the same records and every other byte as it was"
abbrev pub renumbered_bytes : (ℕ → ℕ) → List ℕ → List ℕ
renumbered_bytes f p = set (set p 5 (renumbered_link f (parent_byte p))) 6 (renumbered_link f (source_byte p))

-- "the kept records in their old order", of the first n
unfoldable pub kept_bytes : (ℕ → Bool) → List ℕ → ℕ → List ℕ
kept_bytes k b zero = []
kept_bytes k b (suc n) = kept_bytes k b n ++ pick (k n) (renumbered_bytes (new_number k) (part b n)) []

-- "changes the first 16k bytes of the output only"
abbrev pub cut_bytes : (ℕ → Bool) → List ℕ → ℕ → List ℕ → List ℕ
cut_bytes k b n before = kept_bytes k b n ++ drop (record_size * new_number k n) before

-- ---- what is answered

-- where n stands on a race: "one of those racing writes" is kept
abbrev pub RaceKept : (ℕ → Bool) → Table → ℕ → Type 0
RaceKept k t n = (w : ℕ) × (T (k w) × EarlierRace t w n)

-- 10: "a kept record lacks its parent, its source, or its racing write"
pub record Lacking (k : ℕ → Bool) (t : Table) (n : ℕ) : Type 0 where
  pub inside : Inside t n
  pub kept : T (k n)
  pub incomplete : ¬ Complete k t n

-- the table b, and the selection s of its records
module _ (b s : List ℕ) where
  -- neither 1 to 8 nor 9 is given for a table of n records
  pub record Selected (n : ℕ) : Type 0 where
    pub sound : TestAnswer b (Ok n)
    pub not_9 : ¬ Refused9 s n

  -- nor is 10
  pub record Whole (n : ℕ) : Type 0 where
    pub selected : Selected n
    pub not_10 : LeastNumber (Lacking (named s) (events_of b)) None

  module _ (before : List ℕ) where
    -- "A cut: 1, records, 9, 10, 11": which answer is given
    pub data Decides : Result ℕ Refusal → Type 0 where
      bad_table : {r : Refusal} → TestAnswer b (Err r) → Decides (Err r)
      bad_selection : {r : Refusal} {n : ℕ} → TestAnswer b (Ok n) → Refused9 s n → told r ≡ at 9 0 → Decides (Err r)
      -- "for 10 the least such kept record"
      lacking : {r : Refusal} {n m : ℕ} → Selected n → LeastNumber (Lacking (named s) (events_of b)) (Some m) → told r ≡ at 10 m → Decides (Err r)
      no_room : {r : Refusal} {n : ℕ} → Whole n → ¬ (record_size * new_number (named s) n ≤ length before) → told r ≡ at 11 0 → Decides (Err r)
      -- "and returns k"
      good : {n : ℕ} → Whole n → record_size * new_number (named s) n ≤ length before → Decides (Ok (new_number (named s) n))

    -- "A refusal changes nothing lent"
    abbrev pub bytes_after : Result ℕ Refusal → List ℕ
    bytes_after (Err r) = before
    bytes_after (Ok n) = cut_bytes (named s) b (events_of b).count before

    pub record CutAnswer (after : List ℕ) (answer : Result ℕ Refusal) : Type 0 where
      pub decided : Decides answer
      pub bytes : after ≡ bytes_after answer

-- Demand 3, of n records that a cut of b wrote as the bytes c: they are a table that is not refused, its records are the kept ones, they are
-- "ordered (po and hb), conflict and race exactly as in the whole", and "each finding absent from the whole is absent from the cut"
pub record RightCut (b : List ℕ) (k : ℕ → Bool) (n : ℕ) (c : List ℕ) : Type 0 where
  pub sound : TestAnswer c (Ok n)
  pub cut : CutOf k (events_of b) (events_of c)
  pub no_fault : NoFaultInvented k (events_of b) (events_of c)

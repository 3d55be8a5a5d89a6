-- An append: what it answers in document 01's order, and what the buffer holds then.
use Rattle.std.specs.Prelude.{◌≡◌, List, ◌++◌, ℕ, suc, ◌+◌, ◌*◌, ◌≤◌, length, take, drop, Err, Ok, Result}
use Rattle.events.specs.declared.Record.{Record}
use Rattle.refusals.specs.declared.Fault.{Fault}
use Rattle.refusals.specs.declared.Refusal.{Refusal}
use Rattle.refusals.specs.Numbers.{at, of_record, told}
use Rattle.limits.specs.Limit.{limit}
use Rattle.record.specs.Form.{record_size, encode, overwritten}
use Rattle.model.specs.Table.{Table}
use Rattle.table.specs.Events.{events_of, bytes_of}
use Rattle.table.specs.Test.{FaultAt, Passes, RecordsAnswer}

module _ (b : List ℕ) (used : ℕ) where
  -- not 1: "in an append, instead, more" records in use than the limit "or more than the buffer holds"
  pub record InUse : Type 0 where
    pub few : used ≤ limit
    pub held : record_size * used ≤ length b

  -- the records in use, as a table of their own
  abbrev pub front : List ℕ
  front = take (record_size * used) b

  -- and none of "the records in use" is refused
  pub record SoundUse : Type 0 where
    pub in_use : InUse
    pub sound : RecordsAnswer front (Ok used)

  -- neither 12, "append to" as many records as the limit, nor 11
  pub record Ready : Type 0 where
    pub sound_use : SoundUse
    pub not_full : ¬ (used ≡ limit)
    pub room : record_size * used + record_size ≤ length b

  module _ (new : Record) where
    -- "the new event .. at the next number, as if its bytes were read"
    abbrev pub extended : List ℕ
    extended = front ++ encode new

    -- "An append: 1, records in use, 12, 11, then the new event by 3 to 8 at the next number": which answer is given
    pub data Decides : Result ℕ Refusal → Type 0 where
      not_in_use : {r : Refusal} → ¬ InUse → told r ≡ at 1 0 → Decides (Err r)
      bad_record : {r : Refusal} → InUse → RecordsAnswer front (Err r) → Decides (Err r)
      full : {r : Refusal} → SoundUse → used ≡ limit → told r ≡ at 12 0 → Decides (Err r)
      no_room : {r : Refusal} → SoundUse → ¬ (used ≡ limit) → ¬ (record_size * used + record_size ≤ length b) → told r ≡ at 11 0 → Decides (Err r)
      bad_new : {r : Refusal} {f : Fault} → Ready → FaultAt extended used f → told r ≡ of_record f used → Decides (Err r)
      -- "an append returns the new count"
      good : Ready → Passes extended used → Decides (Ok (used + 1))

    -- "A good append changes its sixteen bytes only", "A refusal changes nothing lent"
    abbrev pub bytes_after : Result ℕ Refusal → List ℕ
    bytes_after (Err r) = b
    bytes_after (Ok n) = overwritten b used (encode new)

    pub record AppendAnswer (after : List ℕ) (answer : Result ℕ Refusal) : Type 0 where
      pub decided : Decides answer
      pub bytes : after ≡ bytes_after answer

-- The first n records of a list of records, appended one after another to the buffer b, leave this: each append good, the first from 0 in use
pub data Appends (at : ℕ → Record) (b : List ℕ) : ℕ → List ℕ → Type 0 where
  nothing : Appends at b 0 b
  one_more : {n : ℕ} {x y : List ℕ} → Appends at b n x → AppendAnswer x n (at n) y (Ok (n + 1)) → Appends at b (suc n) y

-- appending the records of t one after another to the buffer b, each append good, from none in use: the bytes in use are those of t,
-- they hold t's events, and the rest of the buffer is as it was
pub record Builds (t : Table) (b : List ℕ) : Type 0 where
  pub after : List ℕ
  pub run : Appends t.at b t.count after
  pub bytes : take (record_size * t.count) after ≡ bytes_of t
  pub events : events_of (take (record_size * t.count) after) ≡ t
  pub rest : drop (record_size * t.count) after ≡ drop (record_size * t.count) b

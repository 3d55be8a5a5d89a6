-- The test of a record that is to stand after the first n is its test in the table with it appended.
use Rattle.std.specs.Prelude.{Ok}
use mathlib.Core.Path.{◌≡◌, sym, subst, ◌∙◌}
use mathlib.Core.List.{List, ◌++◌}
use Prim.Native.Nat.{ℕ, ◌+◌, ◌*◌, ◌<◌, ◌≤◌}
use native.Mathlib.Omega.{arith}
use native.Mathlib.Decide.{dec_lt}
use lib.ListN.{length, take, length-append}
use lib.Seq.{length-take-le}
use Rattle.events.specs.declared.Record.{Record}
use Rattle.record.specs.Form.{decode, encode, part}
use Rattle.record.proofs.Parts.{encode_length, part_append, part_last}
use Rattle.table.specs.Events.{count_of, events_of}
use Rattle.table.specs.Test.{Passes, CheckAnswer, RecordsAnswer, sound}
use Rattle.table.specs.Computed.{checked}
use Rattle.table.proofs.Exact.{check_exact, passes_alike}
use Rattle.table.proofs.Front.{front_part}

module _ (b : List ℕ) (n : ℕ) (r : Record) (held : 16 * n ≤ length b) where
  abbrev front : List ℕ
  front = take (16 * n) b

  front_length : length front ≡ 16 * n
  front_length = length-take-le (16 * n) b held

  -- the records in use stand in the appended table as they did
  pub front_kept : (m : ℕ) → m < n → part (front ++ encode r) m ≡ part front m
  front_kept m h =
      let long = front_length in
      part_append front (encode r) m (omega arith)

  pub new_part : part (front ++ encode r) n ≡ encode r
  new_part = part_last front (encode r) n front_length (encode_length r)

  pub new_exact : CheckAnswer (front ++ encode r) n (checked (events_of b).at n (decode (encode r)))
  new_exact = rw new_part at (check_exact b (front ++ encode r) n (λ m h. front_part b n held m h ∙ sym (front_kept m h)))

  -- with a record that passes, all pass (for request W12: a good append leaves a sound table)
  pub new_sound : ((m : ℕ) → m < n → Passes front m) → Passes (front ++ encode r) n → RecordsAnswer (front ++ encode r) (Ok (n + 1))
  new_sound passed last =
      subst (λ (k : ℕ). RecordsAnswer (front ++ encode r) (Ok k)) count (sound (λ m h. go m (dec_lt m n) (omega (arith, count))))
    where
      count : count_of (front ++ encode r) ≡ n + 1
      count = omega (arith, length-append front (encode r), front_length, encode_length r)

      go : (m : ℕ) → Dec (m < n) → m < n + 1 → Passes (front ++ encode r) m
      go m (yes h) l = passes_alike front (front ++ encode r) m (λ k j. sym (front_kept k (omega arith))) (passed m h)
      go m (no h) l =
          let same : n ≡ m = omega arith in
          subst (Passes (front ++ encode r)) same last

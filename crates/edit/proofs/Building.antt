-- From the empty table, appends alone build every well-formed table; what is built is read back as the same events.
use Rattle.std.specs.Prelude.{Ok}
use mathlib.Core.Path.{◌≡◌, sym, subst, subst⁻¹, ap, ap₂, ◌∙◌}
use mathlib.Core.List.{List, ◌++◌, append_assoc}
use Prim.Native.Nat.{ℕ, zero, suc, ◌+◌, ◌*◌, ◌<◌, ◌≤◌}
use native.Mathlib.Omega.{arith}
use lib.ListN.{length, take, drop, length-append, length-drop}
use lib.Seq.{take_at, drop_at, drop-drop}
use Rattle.limits.specs.Limit.{limit}
use Rattle.record.specs.Form.{encode, overwritten}
use Rattle.record.specs.Fits.{Fits}
use Rattle.model.specs.Table.{Table, Inside}
use Rattle.model.specs.WellFormed.{WellFormed}
use Rattle.table.specs.Events.{count_of, events_of, written, bytes_of}
use Rattle.table.specs.Test.{Passes, RecordsAnswer, sound}
use Rattle.table.proofs.Exact.{passes_alike}
use Rattle.table.proofs.WellFormed.{test_pass}
use Rattle.table.proofs.Written.{written_length, written_part, written_read, written_sound}
use Rattle.edit.specs.Append.{Ready, good, AppendAnswer, Appends, nothing, one_more, Builds}

module _ (t : Table) (well : WellFormed t) (fits : (n : ℕ) → Inside t n → Fits (t.at n)) (small : t.count ≤ limit) where
  whole_passes : (n : ℕ) → Inside t n → Passes (bytes_of t) n
  whole_passes n h =
      let all = (test_pass (bytes_of t) t.count (written_sound t well fits small)).1 in
      all.each n (omega (arith, all.count))

  -- the first records of a well-formed table pass
  front_passes : (n : ℕ) → n ≤ t.count → (m : ℕ) → m < n → Passes (written t.at n) m
  front_passes n h m l =
      passes_alike (bytes_of t) (written t.at n) m
      (λ k j. written_part t.at t.count k (omega arith) ∙ sym (written_part t.at n k (omega arith)))
      (whole_passes m (omega arith))

  front_sound : (n : ℕ) → n ≤ t.count → RecordsAnswer (written t.at n) (Ok n)
  front_sound n h =
      let long = written_length t.at n in
      let count : count_of (written t.at n) ≡ n = omega arith in
      subst (λ (k : ℕ). RecordsAnswer (written t.at n) (Ok k)) count
      (sound (λ m l. front_passes n h m (omega (arith, count))))

  module _ (b : List ℕ) (room : 16 * t.count ≤ length b) where
    -- the buffer with the first n records in it, and the rest as it was
    abbrev grown : ℕ → List ℕ
    grown n = written t.at n ++ drop (16 * n) b

    front_grown : (n : ℕ) → take (16 * n) (grown n) ≡ written t.at n
    front_grown n = take_at (written t.at n) (drop (16 * n) b) (16 * n) (written_length t.at n)

    rest_grown : (n : ℕ) → drop (16 * n) (grown n) ≡ drop (16 * n) b
    rest_grown n = drop_at (written t.at n) (drop (16 * n) b) (16 * n) (written_length t.at n)

    grown_length : (n : ℕ) → n ≤ t.count → length (grown n) ≡ length b
    grown_length n h = omega (arith, length-append (written t.at n) (drop (16 * n) b), length-drop (16 * n) b, written_length t.at n)

    ready : (n : ℕ) → Inside t n → Ready (grown n) n
    ready n h =
        let long = grown_length n (omega arith) in
        record {
          sound_use = record {
            in_use = record { few = omega arith; held = omega arith };
            sound = subst⁻¹ (λ (l : List ℕ). RecordsAnswer l (Ok n)) (front_grown n) (front_sound n (omega arith));
          };
          not_full = λ e. absurd (omega arith);
          room = omega arith;
        }

    grown_more : (n : ℕ) → grown (suc n) ≡ overwritten (grown n) n (encode (t.at n))
    unfolding written
    grown_more n =
        let e : 16 * suc n ≡ 16 * n + 16 = omega arith in
        append_assoc (written t.at n) (encode (t.at n)) (drop (16 * suc n) b)
        ∙ ap₂ ◌++◌ (sym (front_grown n))
        (ap (λ (l : List ℕ). encode (t.at n) ++ l)
        (ap (λ (k : ℕ). drop k b) e ∙ (sym (drop-drop 16 (16 * n) b) ∙ ap (drop 16) (sym (rest_grown n)))))

    step : (n : ℕ) → Inside t n → AppendAnswer (grown n) n (t.at n) (grown (suc n)) (Ok (n + 1))
    unfolding written
    step n h = record {
      decided = good (ready n h)
          (subst⁻¹ (λ (l : List ℕ). Passes (l ++ encode (t.at n)) n) (front_grown n) (front_passes (suc n) (omega arith) n (omega arith)));
      bytes = grown_more n;
    }

    build : (n : ℕ) → n ≤ t.count → Appends t.at b n (grown n)
    unfolding written
    build zero h = nothing
    build (suc n) h = one_more (build n (omega arith)) (step n (omega arith))

    -- "appends alone build every well-formed table, and what is built is read back as the same events"
    pub appends_build : Builds t b
    appends_build = record {
      after = grown t.count;
      run = build t.count (omega arith);
      bytes = front_grown t.count;
      events = ap events_of (front_grown t.count) ∙ written_read t well.ends fits;
      rest = rest_grown t.count;
    }

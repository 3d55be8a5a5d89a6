-- How long the lines can be: numbers below a thousand have at most three digits, the places of a batch five.
use Rattle.std.specs.Prelude.{Option, None}
use mathlib.Core.Path.{◌≡◌, ap}
use mathlib.Core.List.{List, [], ◌∷◌, ◌++◌}
use Prim.Native.Nat.{ℕ, suc, ◌+◌, ◌*◌, ◌/◌, ◌<◌, ◌≤◌}
use native.Mathlib.Omega.{arith}
use native.Mathlib.Decide.{dec_lt}
use lib.ListN.{length, length-append}
use Rattle.refusals.specs.declared.Fault.{Fault}
use Rattle.refusals.specs.declared.Fault.TheVariants.{Mark, Kind, Order, Rest, Thread, Location, Parent, Source, Twin}
use Rattle.refusals.specs.declared.Told.{Told}
use Rattle.refusals.specs.Numbers.{fault_number, fault_byte, of_record}
use Rattle.text.specs.Text.{decimal, spaced}
use Rattle.text.proofs.Laws.{decimal_one, decimal_longer}
use Rattle.phrases.specs.Phrases.{line, byte_text, where_text, place_text, refused_text, refused_word, at_word, byte_word}

-- one digit more for each ten times
digits_within : (k bound n : ℕ) → n < 10 * bound → ((m : ℕ) → m < bound → length (decimal m) ≤ k) → length (decimal n) ≤ suc k
digits_within k bound n h shorter = go (dec_lt n 10)
  where
    go : Dec (n < 10) → length (decimal n) ≤ suc k
    go (yes l) = omega (arith, ap length (decimal_one n l))
    go (no l) =
        let g : 10 ≤ n = omega arith in
        omega (arith, decimal_longer n g, shorter (n / 10) (omega arith))

decimal_1 : (n : ℕ) → n < 10 → length (decimal n) ≤ 1
decimal_1 n h = omega (arith, ap length (decimal_one n h))

pub decimal_3 : (n : ℕ) → n < 1000 → length (decimal n) ≤ 3
decimal_3 n h = digits_within 2 100 n h (λ m l. digits_within 1 10 m l decimal_1)

pub decimal_5 : (n : ℕ) → n < 100000 → length (decimal n) ≤ 5
decimal_5 n h = digits_within 4 10000 n h (λ m l. digits_within 3 1000 m l decimal_3)

pub line_length : (name rest : List ℕ) → length (line name rest) ≡ length name + length rest + 1
line_length name rest =
    let a = length-append name (rest ++ (10 ∷ [])) in
    let b = length-append rest (10 ∷ []) in
    omega arith

-- the place is a record's number, or a byte of a batch
refused_length : (told : Told) → told.number < 1000 → told.place < 100000 → length (refused_text told) ≤ 21 + length (byte_text told.byte)
unfolding refused_text
refused_length told h k =
    omega (
      arith,
      line_length refused_word (place_text told),
      length-append (spaced told.number) (at_word ++ where_text told),
      length-append at_word (where_text told),
      length-append (spaced told.place) (byte_text told.byte),
      decimal_3 told.number h,
      decimal_5 told.place k,
    )

-- where no byte is named
pub refused_short : (told : Told) → told.number < 1000 → told.place < 100000 → told.byte ≡ None → length (refused_text told) ≤ 21
refused_short told h k none_named = omega (arith, refused_length told h k, ap (λ (x : Option ℕ). length (byte_text x)) none_named)

-- and where one is
pub record_short : (f : Fault) (n : ℕ) → n < 1000 → fault_byte f < 1000 → length (refused_text (of_record f n)) ≤ 30
record_short f n h k =
    omega (
      arith,
      refused_length (of_record f n) (fault_small f) (omega arith),
      length-append byte_word (spaced (fault_byte f)),
      decimal_3 (fault_byte f) k,
    )
  where
    fault_small : (f : Fault) → fault_number f < 1000
    fault_small Mark = omega arith
    fault_small Kind = omega arith
    fault_small Order = omega arith
    fault_small (Rest i) = omega arith
    fault_small Thread = omega arith
    fault_small Location = omega arith
    fault_small Parent = omega arith
    fault_small Source = omega arith
    fault_small Twin = omega arith

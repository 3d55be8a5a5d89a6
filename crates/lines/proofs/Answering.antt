-- The text of a table's answer fits, and stands at the front of the buffer where it was written.
use Rattle.std.specs.Prelude.{Err, Ok}
use mathlib.Core.Path.{◌≡◌, refl, sym, subst}
use mathlib.Core.List.{List}
use Prim.Native.Nat.{ℕ, ◌+◌, ◌*◌, ◌≤◌}
use native.Mathlib.Omega.{arith}
use lib.Dec.{T}
use lib.ListN.{length}
use Rattle.refusals.specs.declared.Refusal.{Refusal}
use Rattle.refusals.specs.declared.Told.{Told}
use Rattle.refusals.specs.Numbers.{at, told}
use Rattle.findings.specs.Family.{all_in_order}
use Rattle.model.specs.Findings.{Report, Reports}
use Rattle.table.specs.Events.{events_of}
use Rattle.table.specs.Test.{length_ok, FirstFault, first_fault, refused, TestAnswer, wrong_length, records}
use Rattle.table.proofs.Exact.{named_inside}
use Rattle.table.proofs.Front.{right_length}
use Rattle.table.proofs.WellFormed.{sound_count}
use Rattle.facts.proofs.Promise.{sound_table}
use Rattle.text.specs.Text.{Written}
use Rattle.phrases.specs.Phrases.{refused_text}
use Rattle.phrases.specs.Room.{Room}
use Rattle.phrases.proofs.Lengths.{refused_short, record_short}
use Rattle.phrases.proofs.Handing.{front_there}
use Rattle.lines.specs.Lines.{report_text}
use Rattle.lines.specs.Room.{longest}
use Rattle.lines.specs.Answer.{TextOf, TextAt}
use Rattle.lines.proofs.Lengths.{report_short}

-- ---- every text fits

wrong_length_long : {x : Told} → x ≡ at 1 0 → length (refused_text x) ≤ 21
wrong_length_long e = subst (λ (x : Told). length (refused_text x) ≤ 21) (sym e) (refused_short (at 1 0) (omega arith) (omega arith) refl)

-- the record is one of the table, and the byte one of the record
record_long : {b : List ℕ} {x : Told} → T (length_ok (length b)) → FirstFault b x → length (refused_text x) ≤ 30
record_long {b} ok (first_fault {n = n} {f = f} inside _ fault) =
    record_short f n (omega (arith, (right_length (length b) ok).within)) (omega (arith, named_inside fault))

refusal_long : {b : List ℕ} {r : Refusal} → TestAnswer b (Err r) → length (refused_text (told r)) ≤ 30
refusal_long (wrong_length _ e) = omega (arith, wrong_length_long e)
refusal_long (records ok (refused x)) = record_long ok x

report_long :
    {b : List ℕ} {n : ℕ} {x : Report} → TestAnswer b (Ok n) → Reports (events_of b) x
    → length (report_text n x.witness x.verdict) ≤ 32 + length all_in_order * (8 + 4 * n)
report_long {b} {n} {x} test right =
    let sound = sound_table b n test in
    subst (λ (k : ℕ). length (report_text k x.witness x.verdict) ≤ 32 + length all_in_order * (8 + 4 * k)) (sound_count b n test)
    (report_short sound.formed sound.few right)

pub text_short : {b text : List ℕ} → TextOf b text → length text ≤ longest
text_short (TextOf.refused test) = omega (arith, refusal_long test)
text_short {b} (TextOf.reported {n = n} test right) =
    omega (arith, report_long test right, (sound_table b n test).few, sound_count b n test)

-- six bytes for each byte of the table and of the four before it in a batch
pub text_within : {b text : List ℕ} → TextOf b text → length text ≤ 24 + 6 * length b
text_within (TextOf.refused (wrong_length _ e)) = omega (arith, wrong_length_long e)
text_within {b} (TextOf.refused (records ok (refused x))) = omega (arith, record_long ok x, (right_length (length b) ok).some_bytes)
text_within {b} (TextOf.reported {n = n} test right) =
    let sound = sound_table b n test in
    omega (arith, report_long test right, sound.formed.some_record, sound.size, sound_count b n test)

-- ---- and is where it was written

module _ {b : List ℕ} (out : List ℕ) (room : longest ≤ length out) {text : List ℕ} (is : TextOf b text) where
  pub text_room : Room out 0 text
  text_room = omega (arith, text_short is)

  pub text_at : {after : List ℕ} {len : ℕ} → Written out 0 text after len → TextAt b after len
  text_at w = front_there (TextOf b) out is text_room w

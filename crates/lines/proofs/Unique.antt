-- A table has one text, and writing it has one result.
use Rattle.std.specs.Prelude.{Result, Ok, Err}
use mathlib.Core.Path.{◌≡◌, ap, ap₂}
use mathlib.Core.List.{List}
use Prim.Native.Nat.{ℕ}
use native.Mathlib.Omega.{arith}
use Rattle.refusals.specs.declared.Refusal.{Refusal}
use Rattle.refusals.specs.Numbers.{told}
use Rattle.model.specs.Findings.{Report}
use Rattle.model.proofs.Unique.{one_report}
use Rattle.table.specs.Events.{events_of}
use Rattle.table.proofs.Unique.{test_one}
use Rattle.phrases.specs.Phrases.{refused_text}
use Rattle.phrases.proofs.Handing.{OneResult, writes_one}
use Rattle.lines.specs.Lines.{report_text}
use Rattle.lines.specs.Answer.{TextOf, WriteAnswer}

-- no table is both refused and sound
apart : {A : Type 0} {r : Refusal} {n : ℕ} → ◌≡◌ {A = Result ℕ Refusal} (Err r) (Ok n) → A
apart e = absurd (let z : ◌≡◌ {A = ℕ} 0 1 = cc in omega arith)

module _ {b : List ℕ} where
  pub text_one : {s u : List ℕ} → TextOf b s → TextOf b u → s ≡ u
  text_one (TextOf.refused {r = r} x) (TextOf.refused {r = q} y) =
      let both = test_one x y in
      let same : r ≡ q = cc in
      ap (λ (z : Refusal). refused_text (told z)) same
  text_one (TextOf.refused x) (TextOf.reported y _) = apart (test_one x y)
  text_one (TextOf.reported x _) (TextOf.refused y) = apart (test_one y x)
  text_one (TextOf.reported {n = n} {x = x} t p) (TextOf.reported {n = m} {x = y} u q) =
      let both = test_one t u in
      let same : n ≡ m = cc in
      ap₂ (λ (k : ℕ) (z : Report). report_text k z.witness z.verdict) same (one_report (events_of b) x y p q)

  pub write_one : {before after after' : List ℕ} {x y : Result ℕ Refusal} → WriteAnswer b before after x → WriteAnswer b before after' y → OneResult x y after after'
  write_one = writes_one (TextOf b) (λ s u. text_one)

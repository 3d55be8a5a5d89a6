-- A table has one answer.
use Rattle.std.specs.Prelude.{Result, Ok, Err}
use mathlib.Core.Path.{◌≡◌, ap, ap₂}
use mathlib.Core.List.{List}
use Prim.Native.Nat.{ℕ}
use native.Mathlib.Omega.{arith}
use Rattle.refusals.specs.declared.Refusal.{Refusal}
use Rattle.refusals.specs.Numbers.{told}
use Rattle.model.proofs.Unique.{one_report}
use Rattle.table.specs.Events.{events_of}
use Rattle.table.proofs.Unique.{test_one}
use Rattle.tally.specs.Answer.{Answer, refused, reported, AnswerOf, by_test, by_judging}

-- no table is both refused and sound
apart : {A : Type 0} {r : Refusal} {n : ℕ} → ◌≡◌ {A = Result ℕ Refusal} (Err r) (Ok n) → A
apart e = absurd (let z : ◌≡◌ {A = ℕ} 0 1 = cc in omega arith)

pub answer_one : (b : List ℕ) (x y : Answer) → AnswerOf b x → AnswerOf b y → x ≡ y
answer_one b _ _ (by_test {r = r} p) (by_test {r = s} q) =
    let both = test_one p q in
    let same : r ≡ s = cc in
    ap (λ (z : Refusal). refused (told z)) same
answer_one b _ _ (by_test p) (by_judging q _) = apart (test_one p q)
answer_one b _ _ (by_judging p _) (by_test q) = apart (test_one q p)
answer_one b _ _ (by_judging {n = n} {x = x} p v) (by_judging {n = m} {x = y} q w) =
    let both = test_one p q in
    let same : n ≡ m = cc in
    ap₂ reported same (one_report (events_of b) x y v w)

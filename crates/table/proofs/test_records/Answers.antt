-- `table::test_records` meets its contract: every record below n passes, in the table of the first `count` records.
use Rattle.refusals.specs.declared.Fault.{Fault}
use Rattle.events.specs.declared.Record.{Record}
use Rattle.std.specs.Prelude.{Ok, Result}
use mathlib.Core.Path.{◌≡◌, refl, sym, subst, ap, ◌∙◌}
use Prim.Native.Nat.{ℕ, ◌*◌, ◌<◌, ◌≤◌}
use native.Mathlib.Omega.{arith}
use mathlib.Core.List.{List}
use Rattle.record.specs.Form.{part, decode}
use lib.ListN.{length, take}
use borrow.Author.Count.{below_more}
use Rattle.table.specs.Computed.{checked}
use Rattle.table.specs.Events.{events_of}
use Rattle.table.specs.Test.{CheckAnswer, first_fault, RecordsAnswer, refused, sound}
use Rattle.table.proofs.Columns.{kept_first}
use Rattle.table.proofs.Exact.{passes_of, fault_of}
use Rattle.table.proofs.Front.{front_count, front_exact, front_stand}
use Rattle.table.proofs.test_records.Goals as goal

-- the answer for record n
answer :
    (b : List ℕ) (count n : ℕ) {d : Result Record Fault} {t : Result (Unit {0}) Fault} →
    16 * count ≤ length b → n < count → d ≡ decode (part b n) → t ≡ checked (events_of b).at n d → CheckAnswer (take (16 * count) b) n t
answer b count n held inside read told =
    subst (CheckAnswer (take (16 * count) b) n) (sym (told ∙ ap (checked (events_of b).at n) read)) (front_exact b count held n inside)

pub loop-n-init : goal.loop-n-init
loop-n-init c = ((λ m h. absurd (omega arith), omega arith), (kept_first _ _ _ (omega arith) tt, (refl, refl)))

pub check_decoded-requires : goal.check_decoded-requires
check_decoded-requires c = c.loop-n.invariant.1.0

pub keep_child-requires : goal.keep_child-requires
keep_child-requires c = record {
  stands = front_stand c.args.table.now c.args.count c.requires _ (omega arith) (passes_of (answer c.args.table.now c.args.count c.loop-n.n c.requires (omega arith) c.read_at.ensures c.in-Ok.ensures));
  kept = c.loop-n.invariant.1.0;
}

pub loop-n-preserved : goal.loop-n-preserved
loop-n-preserved c = let kept = c.keep_child in
    let (all, (columns, (last-long, older-long))) = c.loop-n.invariant in
    ((below_more _ _ all.0 (passes_of (answer c.args.table.now c.args.count c.loop-n.n c.requires (omega arith) c.read_at.ensures c.in-Ok.ensures)), omega arith), (kept.ensures, (kept.auto.last ∙ last-long, kept.auto.older ∙ older-long)))

pub returns-in-Err : goal.returns-in-Err
returns-in-Err c = let a = c.args in
    let held = front_count a.table.now a.count c.requires in
    refused (first_fault {n = c.loop-n.n} (omega (arith, held)) c.loop-n.invariant.0.0 (fault_of (answer c.args.table.now c.args.count c.loop-n.n c.requires (omega arith) c.read_at.ensures c.in-Err.ensures)))

pub returns : goal.returns
returns c = let a = c.args in
    let held = front_count a.table.now a.count c.requires in
    subst (λ (k : ℕ). RecordsAnswer (take (16 * a.count) a.table.now) (Ok k)) held
    (sound (λ n h. c.loop-n.invariant.0.0 n (omega (arith, held))))

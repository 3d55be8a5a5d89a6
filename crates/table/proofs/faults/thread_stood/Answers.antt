-- `faults::thread_stood` meets its contract: a search below m finds nothing, until it finds the thread.
use mathlib.Core.Path.{◌≡◌, sym, ap, ◌∙◌}
use Prim.Native.Nat.{ℕ}
use native.Mathlib.Omega.{arith}
use borrow.Author.Tests.{ne_eqb, eq-eqb}
use lib.Dec.{eqb}
use Rattle.table.proofs.Search.{any_none, any_more, any_found}
use Rattle.table.proofs.Standing.{stands_one}
use Rattle.table.proofs.faults.thread_stood.Goals as goal

pub returns-then-thread_at-thread : goal.returns-then-thread_at-thread
returns-then-thread_at-thread c = any_found _ _ _ c.loop-m-test.true (ap (λ (x : ℕ). eqb x (c.args.thread)) (sym c.thread_at.ensures) ∙ eq-eqb _ _ c.if-thread_at-thread.true)

pub loop-m-preserved : goal.loop-m-preserved
loop-m-preserved c = (any_more _ _ c.loop-m.invariant.0 (sym (ne_eqb _ _ c.if-thread_at-thread.false) ∙ ap (λ (x : ℕ). eqb x (c.args.thread)) c.thread_at.ensures), omega arith)

pub returns : goal.returns
returns c = let l = c.loop-m in
    let e : l.m ≡ c.args.n = omega arith in
    rw (← e) l.invariant.0

pub loop-m-init : goal.loop-m-init
loop-m-init c = (any_none _, omega arith)

pub thread_at-requires : goal.thread_at-requires
thread_at-requires c = stands_one c.requires _ (omega arith)

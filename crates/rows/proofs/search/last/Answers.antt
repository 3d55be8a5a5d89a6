-- `search::last` meets its contract: the row has no number from word k on.
use mathlib.Core.Path.{◌≡◌, sym, subst}
use mathlib.Core.List.{[]}
use Prim.Native.Nat.{ℕ, ◌+◌, ◌-◌, ◌^◌, ◌<◌}
use native.Mathlib.Nat.{pos_of_ne-zero}
use native.Mathlib.Omega.{arith}
use lib.ListN.{get_or}
use Rattle.std.proofs.Common.{rules}
use Rattle.rows.proofs.Along.{Clear, clear_all, clear_more, clear_none, last_found}
use Rattle.rows.proofs.search.last.Goals as goal

pub loop-k-init : goal.loop-k-init
loop-k-init g c = clear_all

pub returns-then-x-ne0 : goal.returns-then-x-ne0
returns-then-x-ne0 g c = let a = c.args in
    let k = c.loop-k.k - 1 in
    let fits : get_or (get_or a.m.now a.b []) k 0 < 2 ^ 64 = search rules in
    let e : k + 1 ≡ c.loop-k.k = omega arith in
    last_found (omega arith) fits (pos_of_ne-zero c.if-x-ne0.true) (subst (λ (z : ℕ). Clear g.row.W a.m.now a.b z) (sym e) c.loop-k.invariant)

pub loop-k-preserved : goal.loop-k-preserved
loop-k-preserved g c = let a = c.args in
    let e : c.loop-k.k - 1 + 1 ≡ c.loop-k.k = omega arith in
    clear_more c.if-x-ne0.false (subst (λ (z : ℕ). Clear g.row.W a.m.now a.b z) (sym e) c.loop-k.invariant)

pub returns : goal.returns
returns g c = let a = c.args in
    let e : c.loop-k.k ≡ 0 = omega arith in
    clear_none (subst (λ (z : ℕ). Clear g.row.W a.m.now a.b z) e c.loop-k.invariant)

-- `search::next` meets its contract: the row has no number from lo on that is below at.
use mathlib.Core.List.{[]}
use Prim.Native.Nat.{◌/◌, ◌^◌, ◌<◌}
use native.Mathlib.Nat.{pos_of_ne-zero}
use native.Mathlib.Omega.{arith}
use lib.ListN.{get_or}
use Rattle.std.proofs.Common.{rules}
use Rattle.rows.proofs.Along.{word_passed, word_found, word_before, gap_none, gap_more, gap_found, gap_all}
use Rattle.rows.proofs.search.next.Goals as goal

pub loop-at-init : goal.loop-at-init
loop-at-init g c = gap_none

pub returns-then-x-ne0 : goal.returns-then-x-ne0
returns-then-x-ne0 g c = let a = c.args in
    let at = c.loop-at.at in
    let fits : get_or (get_or a.m.now a.b []) (at / 64) 0 < 2 ^ 64 = search rules in
    let low = c.loop-at-test.true in
    let other = pos_of_ne-zero c.if-x-ne0.true in
    gap_found (gap_more (omega arith) (word_before g.row.W a.m.now a.b at fits low other) c.loop-at.invariant)
    (word_found g.row.W a.m.now a.b at fits low other)

pub loop-at-preserved : goal.loop-at-preserved
loop-at-preserved g c = let a = c.args in
    gap_more (omega arith) (word_passed g.row.W a.m.now a.b c.loop-at.at c.if-x-ne0.false) c.loop-at.invariant

pub returns : goal.returns
returns g c = gap_all c.requires.2 c.loop-at-test.false c.loop-at.invariant

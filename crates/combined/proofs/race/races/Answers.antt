-- `race::races` meets its contract: the first b rows have the races, and what is noted is noted of the numbers below b.
use mathlib.Core.Path.{◌≡◌}
use native.Mathlib.Omega.{arith}
use Rattle.rows.proofs.Sets.{is_iff}
use Rattle.rows.proofs.Rows.{made_none, made_more, made_row_is, made_iff, made_trans}
use Rattle.combined.proofs.Racing.{races_before, races_from}
use Rattle.combined.proofs.race.races.Goals as goal

pub loop-b-init : goal.loop-b-init
loop-b-init g c = record {
  writes = made_iff (λ a l _ x. absurd x) (λ a l _ x. omega (arith, x.low)) c.clear.ensures;
  nas = made_iff (λ a l _ x. absurd x) (λ a l _ x. omega (arith, x.low)) c.clear-2.ensures;
  rows = made_none;
}

pub loop-b-preserved : goal.loop-b-preserved
loop-b-preserved g c = let turn = c.loop-b in
    let inv = turn.invariant in
    let low = c.loop-b-test.true in
    let place = c.requires.placed.known turn.b low in
    let race =
    is_iff (λ a. races_before inv.writes.holds inv.nas.holds (omega (arith, place))) (λ a. races_from inv.writes.holds inv.nas.holds (omega (arith, place)))
    c.race_row-racing.ensures in
    record {
      writes = made_trans inv.writes c.note_write.ensures;
      nas = made_trans inv.nas c.note_na.ensures;
      rows = made_more inv.rows (made_row_is race c.put.ensures);
    }

pub returns : goal.returns
returns g c = let e : c.loop-b.b ≡ c.args.n = omega arith in
    let made = rw e at c.loop-b.invariant in
    (made.writes, made.nas, made.rows)

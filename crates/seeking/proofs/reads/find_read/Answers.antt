-- `reads::find_read` meets its contract: no record below b is an unjustified read.
use Prim.Native.Nat.{ℕ, ◌+◌, ◌-◌, ◌<◌}
use native.Mathlib.Omega.{arith}
use borrow.Author.Count.{below_more}
use Rattle.laws.specs.Least.{Least}
use Rattle.laws.proofs.Says.{said, denied}
use Rattle.laws.proofs.Passed.{number_found}
use Rattle.findings.proofs.Meant.{found_record, found_no_record}
use Rattle.model.proofs.Facts.{read_inside}
use Rattle.columns.proofs.Facts.{below}
use Rattle.seeking.proofs.reads.find_read.Goals as goal

fewer : {n b : ℕ} → b < n → n - (b + 1) < n - b
fewer l = omega arith

pub loop-b-init : goal.loop-b-init
loop-b-init g c = let p = c.requires in (omega arith, p.0, p.1, λ t g j l. absurd (omega arith))

pub returns-then-unjustified : goal.returns-then-unjustified
returns-then-unjustified g c = λ t g. found_record (number_found (c.loop-b.invariant.3 t g) (said (c.unjustified.ensures t g) c.if-unjustified.true))

pub loop-b-preserved : goal.loop-b-preserved
loop-b-preserved g c = let i = c.loop-b.invariant in
    (omega arith, i.1, i.2, λ t g. below_more _ _ (i.3 t g) (denied (c.unjustified.ensures t g) c.if-unjustified.false))

pub returns : goal.returns
returns g c = λ t g.
    found_no_record
    (Least.absent (λ j s. c.loop-b.invariant.3 t g j (let h = below g.known (read_inside g.known.formed j s.reads) in omega (arith, h, c.loop-b-test.false)) s))

-- `sequential::turn` meets its contract: as the parent's row, or made of two rows, or there is no parent.
use mathlib.Core.Path.{refl}
use native.Mathlib.Omega.{arith}
use Rattle.laws.proofs.Says.{says_and, says_eq, says_lt, said, denied}
use Rattle.rows.specs.Steps.{Leads}
use Rattle.rows.proofs.Sets.{is_iff, either_of}
use Rattle.combined.specs.Sequential.{SamePlace, Turned.above}
use Rattle.combined.proofs.Turns.{turned_above, turned_apart, apart_turned, turned_parent}
use Rattle.combined.proofs.sequential.turn.Goals as goal

pub returns-then-place-p : goal.returns-then-place-p
returns-then-place-p g c = let same = said (says_and (says_eq _ _) (says_lt _ _)) c.if-place-p.true in
    let parent : Leads c.args.parent.now _ c.args.b = record { is = refl; falls = c.if-p-b.true } in
    let one : SamePlace c.args.place.now _ c.args.b = record { one = same.0; some = same.1 } in
    is_iff (λ a o. above parent one (c.requires.held.only a _ parent.falls o))
    (λ a t. c.requires.held.all a _ parent.falls (turned_above parent one t)) c.row.ensures

pub returns-then-p-b : goal.returns-then-p-b
returns-then-p-b g c = let parent : Leads c.args.parent.now _ c.args.b = record { is = refl; falls = c.if-p-b.true } in
    let two : ¬ SamePlace c.args.place.now _ c.args.b = λ s. denied (says_and (says_eq _ _) (says_lt _ _)) c.if-place-p.false (s.one, s.some) in
    is_iff (λ a. apart_turned parent two) (λ a. turned_apart parent two)
    (either_of c.row-then-p-b.ensures c.row-then-p-b-2.ensures c.or.ensures)

pub returns : goal.returns
returns g c = let later = c.if-p-b.false in
    is_iff (λ a z. absurd z) (λ a t. let p = turned_parent t in omega (arith, later, p.1.is, p.1.falls)) c.nothing.ensures

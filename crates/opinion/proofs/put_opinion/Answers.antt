-- `put_opinion` meets its contract: the length decides, and either text has room.
use native.Mathlib.Omega.{arith}
use Rattle.std.proofs.Common.{rules}
use Rattle.phrases.proofs.Handing.{front_there}
use Rattle.opinion.specs.Opinion.{OpinionOf, too_large, answered}
use Rattle.opinion.proofs.Unique.{front_as}
use Rattle.opinion.proofs.put_opinion.Goals as goal

pub returns-then-input-gt-MOST : goal.returns-then-input-gt-MOST
returns-then-input-gt-MOST c =
    let front = front_there (OpinionOf c.args.input.now) c.args.out.now (too_large c.if-input-gt-MOST.true) (omega (arith, c.requires)) c.put.ensures.written in
    search (rules, front)

pub returns : goal.returns
returns c = let small = c.if-input-gt-MOST.false in
    front_as (λ text. answered (omega (arith, small))) c.put_answer.ensures

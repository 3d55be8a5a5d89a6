-- `twins::keep_child` meets its contract: the record has its place in the columns, or they are not used for it.
use Rattle.std.specs.Prelude.{Some}
use mathlib.Core.Path.{sym, ap, ◌∙◌}
use native.Mathlib.Omega.{arith}
use Rattle.laws.proofs.Says.{said, denied}
use Rattle.table.proofs.Columns.{says_placed, kept_root, kept_unplaced, kept_child}
use Rattle.table.proofs.twins.keep_child.Goals as goal

pub overflow_cast-last : goal.overflow_cast-last
overflow_cast-last c = let small = c.requires.kept.small in
    let fits = (said (says_placed c.args.last.now c.args.older.now c.wide-p.result c.args.n) c.if-p-last.true).room in
    omega arith

pub returns-in-None : goal.returns-in-None
returns-in-None c = let pre = c.requires in
    kept_root pre.stands pre.kept (sym c.in-None.ensures)

pub returns-then-p-last : goal.returns-then-p-last
returns-then-p-last c = let pre = c.requires in
    kept_child pre.stands pre.kept c.wide-p.result (sym c.in-Some.ensures ∙ ap Some (sym c.wide-p.ensures)) (said (says_placed c.args.last.now c.args.older.now c.wide-p.result c.args.n) c.if-p-last.true)

pub returns-else-p-last : goal.returns-else-p-last
returns-else-p-last c = let a = c.args in
    let pre = c.requires in
    kept_unplaced pre.stands pre.kept c.wide-p.result (sym c.in-Some.ensures ∙ ap Some (sym c.wide-p.ensures))
    (denied (says_placed a.last.now a.older.now c.wide-p.result a.n) c.if-p-last.false)

pub bounds-last-p : goal.bounds-last-p
bounds-last-p c = (said (says_placed c.args.last.now c.args.older.now c.wide-p.result c.args.n) c.if-p-last.true).place

pub bounds-older-n : goal.bounds-older-n
bounds-older-n c = (said (says_placed c.args.last.now c.args.older.now c.wide-p.result c.args.n) c.if-p-last.true).room

pub bounds-last-p-then-p-last : goal.bounds-last-p-then-p-last
bounds-last-p-then-p-last c = (said (says_placed c.args.last.now c.args.older.now c.wide-p.result c.args.n) c.if-p-last.true).place

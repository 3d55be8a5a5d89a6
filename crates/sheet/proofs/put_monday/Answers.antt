-- `put_monday` meets its contract: the text of the figures has room.
use Rattle.std.proofs.Common.{rules}
use Rattle.phrases.proofs.Handing.{front_there}
use Rattle.sheet.specs.Answer.{SheetOf}
use Rattle.sheet.proofs.Telling.{told_sheet, sheet_room}
use Rattle.sheet.proofs.put_monday.Goals as goal

pub put_sheet-requires : goal.put_sheet-requires
put_sheet-requires c = sheet_room c.args.out.now c.requires c.figures_of-monday.ensures

pub returns : goal.returns
returns c = let is = c.figures_of-monday.ensures in
    let front = front_there (SheetOf c.args.batch.now) c.args.out.now (told_sheet is) (sheet_room c.args.out.now c.requires is) c.put_sheet.ensures.written in
    search (rules, front)

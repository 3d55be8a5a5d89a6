-- `put_figures` meets its contract: the counts, the verdicts, the largest.
use mathlib.Core.List.{List, ◌++◌}
use Prim.Native.Nat.{ℕ}
use Rattle.text.specs.Text.{spaced}
use Rattle.phrases.specs.Phrases.{line}
use Rattle.phrases.proofs.Pieces.{room_front, room_back, written_three}
use Rattle.tally.specs.declared.Figures.{Figures}
use Rattle.sheet.specs.Sheet.{largest_word, counts_text, verdicts_text, figures_text}
use Rattle.sheet.proofs.put_figures.Goals as goal

abbrev largest : Figures → List ℕ
largest f = line largest_word (spaced f.largest)

pub put_counts-requires : goal.put_counts-requires
unfolding figures_text
put_counts-requires c = let f = c.args.figures in
    room_front c.args.text.now.out.now c.args.text.now.at (counts_text f) (verdicts_text f ++ largest f) c.requires

pub put_verdicts-requires : goal.put_verdicts-requires
unfolding figures_text
put_verdicts-requires c = let f = c.args.figures in
    let t = c.put_counts.new.text in
    room_front t.out.now t.at (verdicts_text f) (largest f) (room_back (verdicts_text f ++ largest f) c.requires c.put_counts.ensures.written)

pub number_line-requires : goal.number_line-requires
unfolding figures_text
number_line-requires c = let f = c.args.figures in
    room_back (largest f) (room_back (verdicts_text f ++ largest f) c.requires c.put_counts.ensures.written) c.put_verdicts.ensures.written

pub returns-clause-written : goal.returns-clause-written
unfolding figures_text
returns-clause-written c = written_three c.requires c.put_counts.ensures.written c.put_verdicts.ensures.written c.number_line.ensures.written

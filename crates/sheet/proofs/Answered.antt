-- The answers that are counted are those of W1: a table's text is the text of its answer.
use mathlib.Core.List.{List, map}
use Prim.Native.Nat.{ℕ}
use Rattle.batches.specs.Batch.{End}
use Rattle.batches.specs.Answers.{Each, none_left, and_then, AnswersOf}
use Rattle.phrases.specs.Phrases.{refused_text}
use Rattle.lines.specs.Lines.{report_text}
use Rattle.lines.specs.Answer.{TextOf}
use Rattle.tally.specs.Answer.{Answer, refused, reported, AnswerOf, by_test, by_judging}

-- what W1 writes of an answer
pub answer_text : Answer → List ℕ
answer_text (refused told) = refused_text told
answer_text (reported n x) = report_text n x.witness x.verdict

text_of : {b : List ℕ} {x : Answer} → AnswerOf b x → TextOf b (answer_text x)
unfolding answer_text
text_of (by_test {r = r} t) = TextOf.refused {r = r} t
text_of (by_judging t x) = TextOf.reported t x

each_text : {tables : List (List ℕ)} {answers : List Answer} → Each AnswerOf tables answers → Each TextOf tables (map answer_text answers)
each_text none_left = none_left
each_text (and_then p rest) = and_then (text_of p) (each_text rest)

-- the texts of a batch that W1 writes are those of the answers that are counted
pub texts_of : {b : List ℕ} {answers : List Answer} {e : End} → AnswersOf AnswerOf b answers e → AnswersOf TextOf b (map answer_text answers) e
texts_of p = record { tables = p.tables; holds = p.holds; each = each_text p.each }

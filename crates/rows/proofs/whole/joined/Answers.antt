-- `whole::joined` meets its contract: the set has what the first rows have.
use mathlib.Core.Path.{◌≡◌, refl, ◌∙◌}
use mathlib.Core.Logic.{◌⊎◌, inl, inr}
use mathlib.Core.List.{List, []}
use Prim.Native.Nat.{ℕ, ◌+◌, ◌<◌}
use native.Mathlib.Omega.{arith}
use borrow.Author.Count.{below_more}
use lib.ListN.{get_or, take}
use Rattle.std.proofs.Common.{rules}
use Rattle.std.proofs.lemmas.List.{get_or-take, get_or_read_under}
use Rattle.rows.specs.Sets.{Is}
use Rattle.rows.specs.Rows.{On, Cell}
use Rattle.rows.proofs.Sets.{is_iff, either_of}
use Rattle.rows.proofs.Rows.{is_row}
use Rattle.rows.proofs.whole.joined.Goals as goal

module _ (w : ℕ) (m : List (List ℕ)) (n a : ℕ) where
  one_more : ((b : ℕ) × Cell w n m a b) ⊎ On w m a n → (b : ℕ) × Cell w (n + 1) m a b
  one_more (inl (b, s)) = (b, record { row = omega (arith, s.row); on = s.on })
  one_more (inr o) = (n, record { row = omega arith; on = o })

  of_more : (b : ℕ) × Cell w (n + 1) m a b → ((b : ℕ) × Cell w n m a b) ⊎ On w m a n
  of_more (b, s) =
      below_more (λ x. On w m a x → ((b : ℕ) × Cell w n m a b) ⊎ On w m a n) n (λ x l o. inl (x, record { row = l; on = o })) inr b s.row s.on

pub loop-words-init : goal.loop-words-init
loop-words-init g c = is_iff (λ a z. absurd z) (λ a s. absurd (omega (arith, s.1.row))) c.nothing-all.ensures

pub loop-words-preserved : goal.loop-words-preserved
loop-words-preserved g c = let turn = c.loop-words in
    let few : turn.words-index < c.args.n = search rules in
    let taken : c.words-item.result ≡ get_or (take c.args.n c.args.m.now) turn.words-index [] = get_or_read_under _ turn.words-index _ _ [] c.words-item.is c.loop-words-test.true refl in
    let e : c.words-item.result ≡ get_or c.args.m.now turn.words-index [] = taken ∙ get_or-take c.args.n c.args.m.now turn.words-index [] few in
    let here : Is {W = g.row.W} (record { words = c.words-item.result }) (λ a. On g.row.W c.args.m.now a turn.words-index) = rw e (is_row g.row.W c.args.m.now turn.words-index) in
    is_iff (one_more g.row.W c.args.m.now turn.words-index) (of_more g.row.W c.args.m.now turn.words-index) (either_of turn.invariant here c.or-all.ensures)

pub returns : goal.returns
returns g c =
    let e : c.loop-words.words-index ≡ c.args.n = search rules in
    rw e at c.loop-words.invariant

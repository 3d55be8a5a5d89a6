-- `Set::is_empty` meets its contract: a set is empty exactly if its words are 0.
use Prim.Native.Nat.{ℕ, ◌<◌}
use mathlib.Core.Path.{◌≡◌}
use lib.ListN.{get_or, length}
use Rattle.std.specs.Prelude.{IsTrue, ◌↔◌}
use Rattle.std.proofs.Common.{rules}
use Rattle.rows.proofs.Sets.{says_empty}
use Rattle.rows.proofs.set.Set.is_empty.Goals as goal

pub returns : goal.returns
returns g c = let words = c.args.self.words in
    let zero : IsTrue c.all.result ↔ ((k : ℕ) → k < length words → get_or words k 0 ≡ 0) = search rules in
    says_empty c.args.self c.all.result (search rules) (search rules) zero

-- `searching::find_read` meets its contract: no record below r is an unjustified read.
use Prim.Native.Nat.{ℕ, ◌<◌, ◌≤◌}
use native.Mathlib.Omega.{arith}
use Rattle.std.proofs.Common.{rules}
use Rattle.std.specs.Option.{MatchOption}
use Rattle.std.proofs.lemmas.Iterator.{first_from_Range}
use Rattle.laws.specs.Least.{Least}
use Rattle.laws.proofs.Passed.{number_found}
use Rattle.findings.proofs.Meant.{found_record, found_no_record}
use Rattle.model.specs.Findings.{ShowsR}
use Rattle.model.proofs.Facts.{read_inside}
use Rattle.table.specs.Events.{events_of}
use Rattle.facts.proofs.Records.{formed}
use Rattle.plain.proofs.searching.find_read.Goals as goal
use Rattle.plain.proofs.searching.find_read.Goals.{After-find}

first :
    (c : After-find) → let P : ℕ → Type 0 = ShowsR (events_of c.args.table.now) in
    MatchOption c.find.result ((k : ℕ) → 0 ≤ k → k < c.args.n → ¬ P k) (λ r. (0 ≤ r) × (r < c.args.n) × P r × ((k : ℕ) → 0 ≤ k → k < r → ¬ P k))
first c = first_from_Range _ _ _ _ _ _ c.find.ensures.ran (λ x q k. search rules) (λ x q k. search rules)

pub returns-in-Some : goal.returns-in-Some
returns-in-Some c = let (_, _, shows, before) = rw c.in-Some.is at (first (goal.at.returns-in-Some c).After-find) in
    found_record (number_found (λ j l. before j (omega arith) l) shows)

pub returns-in-None : goal.returns-in-None
returns-in-None c = let counted = c.requires in
    let none_shows = rw c.in-None.is at (first (goal.at.returns-in-None c).After-find) in
    found_no_record (Least.absent (λ j s. none_shows j (omega arith) (omega (arith, counted.all, read_inside (formed counted) j s.reads)) s))
